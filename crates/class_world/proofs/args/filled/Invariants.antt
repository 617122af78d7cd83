use Rattle.class_world.proofs.Below.{[], map, length, drop, Held, Reading, spelled, bindings, AllHold, AreNames, AreNodes, Holds, of_binding, of_each, filled}
use Rattle.std.proofs.Common.{◌≡◌}
use Rattle.class_world.proofs.args.filled.Given as goal

abbrev pub invariant-loop-name : goal.invariant-loop-name
invariant-loop-name l = record {
  vars : (t : Reading) → filled (bindings t l.vars) (map (spelled t) (drop (length l.yielded) l.names)) (drop (length l.yielded) l.values) ≡ filled [] (map (spelled t) l.names) l.values;
  holds : (w : Held) → Holds w (AreNames l.names) → Holds w (AreNodes l.values) → AllHold w (of_each of_binding l.vars);
}
