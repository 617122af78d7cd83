use Rattle.native_containers.proofs.Below.{drop, Reading, Reads, bindings, plain, Grows, names_set}
use Rattle.std.proofs.Common.{◌≡◌}
use Rattle.native_containers.proofs.init.set_names.Given as goal

abbrev pub invariant-loop-keyword : goal.invariant-loop-keyword
invariant-loop-keyword l = record {
  set : (t : Reading) → Reads t l.world → Reads t l.fn.world × (names_set (plain t l.fn.world) l.dict (bindings t l.kw) ≡ names_set (plain t l.world) l.dict (bindings t (drop l.keyword-index l.kw)));
  grows : Grows l.fn.world l.world;
}
