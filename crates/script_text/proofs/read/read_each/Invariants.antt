use Rattle.script_text.proofs.Below.{drop, items_view, exprs_of, command_trees}
use Rattle.std.proofs.Common.{◌≡◌}
use Rattle.script_text.proofs.JsonText.Lists.{onto}
use Rattle.script_text.proofs.read.read_each.Given as goal

abbrev pub invariant-loop-item : goal.invariant-loop-item
invariant-loop-item l = exprs_of (items_view l.items) ≡ onto (command_trees l.commands.items) (exprs_of (items_view (drop l.item-index l.items)))
