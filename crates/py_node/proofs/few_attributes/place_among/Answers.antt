use Rattle.py_node.proofs.Lemmas.{sym, ◌∙◌, is_of, position_from-zero, passes, fails, none-left}
use Rattle.py_node.proofs.few_attributes.place_among.Goals as goal

pub loop-place-preserved : goal.loop-place-preserved
loop-place-preserved c =
    c.loop-place.invariant
    ∙ fails (is_of c.args.name) c.args.entries.now c.loop-place.place _ c.loop-place-test.true (sym c.eq.ensures ∙ c.if-eq.false)

pub returns-then-eq-clause-first : goal.returns-then-eq-clause-first
returns-then-eq-clause-first c =
    let test = is_of c.args.name in
    let es = c.args.entries.now in
    sym (passes test es c.loop-place.place _ c.loop-place-test.true (sym c.eq.ensures ∙ c.if-eq.true))
    ∙ sym c.loop-place.invariant
    ∙ sym (position_from-zero test es)

pub returns-clause-first : goal.returns-clause-first
returns-clause-first c =
    let test = is_of c.args.name in
    let es = c.args.entries.now in
    sym (none-left test es c.loop-place.place c.loop-place-test.false)
    ∙ sym c.loop-place.invariant
    ∙ sym (position_from-zero test es)
