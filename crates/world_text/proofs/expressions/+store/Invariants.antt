use Rattle.world_text.proofs.Below.{take, map, tree_of, part_of, pair_of, Adds, HasTrees, HasPairs, HasEntries}
use Rattle.world_text.proofs.expressions.+store.Given as goal

abbrev pub invariant-store_each-loop-expr : goal.invariant-store_each-loop-expr
invariant-store_each-loop-expr l = record {
  adds : Adds l.initial.world l.world;
  trees : HasTrees l.world l.stored.items (map tree_of (take l.expr-index l.expr-items));
}

abbrev pub invariant-store_pairs-loop-key : goal.invariant-store_pairs-loop-key
invariant-store_pairs-loop-key l = record {
  adds : Adds l.initial.world l.world;
  pairs : HasPairs l.world l.stored.items (map pair_of (take l.key-index l.key-items));
}

abbrev pub invariant-store_entries-loop-name : goal.invariant-store_entries-loop-name
invariant-store_entries-loop-name l = record {
  adds : Adds l.initial.world l.world;
  entries : HasEntries l.world l.stored.items (map part_of (take l.name-index l.name-items));
}
