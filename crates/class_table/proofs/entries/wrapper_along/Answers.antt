use Rattle.class_table.proofs.Lemmas.{sym, ◌∙◌, arith, wrapped-along-found, wrapped-along-next}
use Rattle.class_table.proofs.entries.wrapper_along.Goals as goal

pub returns-in-Some : goal.returns-in-Some
returns-in-Some c =
    sym (wrapped-along-found c.args.slot c.args.classes.now c.args.line.now c.loop-place.place (record { 0 = 0 }) c.in-Some.entry (omega arith) c.in-Some.ensures) ∙ c.loop-place.invariant

pub loop-place-preserved : goal.loop-place-preserved
loop-place-preserved c =
    wrapped-along-next c.args.slot c.args.classes.now c.args.line.now c.loop-place.place (record { 0 = 0 }) (omega arith) (sym c.wrapper_at.ensures ∙ c.in_default.is) ∙ c.loop-place.invariant
