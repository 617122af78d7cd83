use Rattle.native_containers.proofs.Below.{Reading, plain, AreNodes, Holds, keys_of, values_under}
use Rattle.std.proofs.Common.{◌≡◌}
use Rattle.native_containers.proofs.NativeCompare.Values.{after, values_left}
use Rattle.native_containers.proofs.native_compare.dicts.values_under.Given as goal

abbrev pub invariant-loop-entry : goal.invariant-loop-entry
invariant-loop-entry l = record {
  values : (t : Reading) → values_under (plain t l.world) l.dict (keys_of l.entries) ≡ after l.values.items (values_left (plain t l.world) l.dict l.entries l.entry-index);
  holds : Holds l.world (AreNodes l.values.items);
}
