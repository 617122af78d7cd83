use Rattle.row_kit.proofs.Below.{map, take, ref, AreNodes, Holds}
use Rattle.std.proofs.Common.{◌≡◌}
use Rattle.row_kit.proofs.class_nodes.class_nodes.Given as goal

abbrev pub invariant-loop-class : goal.invariant-loop-class
invariant-loop-class l = record {
  items : l.nodes.items ≡ map (λ c. ref c.0) (take l.class-index l.classes);
  holds : Holds l.world (AreNodes l.nodes.items);
}
