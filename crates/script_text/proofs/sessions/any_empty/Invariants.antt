use Rattle.script_text.proofs.Below.{drop, items_view, any_empty}
use Rattle.std.proofs.Common.{◌≡◌}
use Rattle.script_text.proofs.sessions.any_empty.Given as goal

abbrev pub invariant-loop-item : goal.invariant-loop-item
invariant-loop-item l = any_empty (items_view l.items) ≡ any_empty (items_view (drop l.item-index l.items))
