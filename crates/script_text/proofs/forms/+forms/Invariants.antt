use Rattle.script_text.proofs.Below.{drop, map, depth, items_depth, view, items_view, tree_of, pair_of, exprs_of, entries_in, pairs_in, named, parts_depth}
use Rattle.std.proofs.Common.{◌≡◌, ◌+◌, ◌*◌}
use Rattle.script_text.proofs.JsonText.Lists.{onto}
use Rattle.script_text.proofs.forms.+forms.Given as goal

abbrev pub decreases-read_expr : goal.decreases-read_expr
decreases-read_expr l = 4 * depth (view l.value.now)

abbrev pub decreases-read_array : goal.decreases-read_array
decreases-read_array l = 4 * items_depth (items_view l.items.now) + 3

abbrev pub decreases-read_parts : goal.decreases-read_parts
decreases-read_parts l = 4 * parts_depth l.parts + 2

abbrev pub decreases-read_exprs : goal.decreases-read_exprs
decreases-read_exprs l = 4 * items_depth (items_view l.items.now) + 1

abbrev pub decreases-read_pairs : goal.decreases-read_pairs
decreases-read_pairs l = 4 * items_depth (items_view l.items.now) + 1

abbrev pub decreases-read_pair : goal.decreases-read_pair
decreases-read_pair l = 4 * depth (view l.value.now)

abbrev pub decreases-read_entries : goal.decreases-read_entries
decreases-read_entries l = 4 * items_depth (items_view l.items.now) + 1

abbrev pub decreases-read_entry : goal.decreases-read_entry
decreases-read_entry l = 4 * depth (view l.value.now)

abbrev pub invariant-read_exprs-loop-item : goal.invariant-read_exprs-loop-item
invariant-read_exprs-loop-item l = exprs_of (items_view l.items) ≡ onto (map tree_of l.found.items) (exprs_of (items_view (drop l.item-index l.items)))

abbrev pub invariant-read_pairs-loop-item : goal.invariant-read_pairs-loop-item
invariant-read_pairs-loop-item l = pairs_in (items_view l.items) ≡ onto (map pair_of l.found.items) (pairs_in (items_view (drop l.item-index l.items)))

abbrev pub invariant-read_entries-loop-item : goal.invariant-read_entries-loop-item
invariant-read_entries-loop-item l = entries_in (items_view l.items) ≡ onto (map named l.found.items) (entries_in (items_view (drop l.item-index l.items)))
