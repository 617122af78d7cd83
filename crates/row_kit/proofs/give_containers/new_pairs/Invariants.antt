use Rattle.row_kit.proofs.Below.{[], drop, Reading, Reads, plain, AreNodes, Grows, Holds, pairs_made}
use Rattle.std.proofs.Common.{◌≡◌}
use Rattle.row_kit.proofs.give_containers.new_pairs.Given as goal

abbrev pub invariant-loop-entry : goal.invariant-loop-entry
invariant-loop-entry l = record {
  made : (t : Reading) → pairs_made (plain t l.fn.world) [] l.entry-items ≡ pairs_made (plain t l.world) l.pairs.items (drop l.entry-index l.entry-items);
  reads : (t : Reading) → Reads t l.world → Reads t l.fn.world;
  grows : Grows l.fn.world l.world;
  nodes : Holds l.world (AreNodes l.pairs.items);
}
