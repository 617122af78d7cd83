use Rattle.script_text.proofs.Lemmas.{false, ok_or, inl, inr, ap, sym, ◌∙◌, arith, Err, items_view, lacks_command, fit-rows, other-rows}
use Rattle.std.proofs.Common.{◌≡◌, ◌<◌, ◌⊎◌, length}
use Rattle.script_text.specs.declared.json_text.error.ScriptError.TheVariants.{Shape}
use Rattle.script_text.proofs.sessions.read_items.Goals as goal
use Rattle.script_text.proofs.sessions.read_items.Goals.{then-items-lt2-via-then-items-lt2, then-items-lt2-via-else-items-lt2+then-items-gt9}

pub returns-then-items-lt2-clause-script : goal.returns-then-items-lt2-clause-script
returns-then-items-lt2-clause-script c e is =
    let lacks : lacks_command (items_view c.args.items.now) ≡ false = sym c.lacks_command.ensures ∙ c.if-lacks_command.false in
    let same : Shape ≡ e = cc in
    let other : (length c.args.items.now < 2) ⊎ (9 < length c.args.items.now) =
    elim c.then-items-lt2.branch [ then-items-lt2-via-then-items-lt2 w ↦ inl (omega arith) | then-items-lt2-via-else-items-lt2+then-items-gt9 w ↦ inr (omega arith) ] in
    other-rows c.args.items.now lacks other ∙ ap Err same

pub returns-clause-ok : goal.returns-clause-ok
returns-clause-ok c =
    let lacks : lacks_command (items_view c.args.items.now) ≡ false = sym c.lacks_command.ensures ∙ c.if-lacks_command.false in
    fit-rows c.args.items.now lacks (omega arith) (omega arith) ∙ ap (λ o. ok_or o Shape) c.in_ok-sessions.ensures.ok
