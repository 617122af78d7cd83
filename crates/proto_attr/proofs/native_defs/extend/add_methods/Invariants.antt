use Rattle.proto_attr.proofs.Below.{take, fold, Reading, Reads, plain, Grows, with_method}
use Rattle.std.proofs.Common.{◌≡◌}
use Rattle.proto_attr.proofs.native_defs.extend.add_methods.Given as goal

abbrev pub invariant-loop-def : goal.invariant-loop-def
invariant-loop-def l = record {
  added : (t : Reading) → Reads t l.world → plain t l.world ≡ fold (with_method l.fn.class.0) (plain t l.initial.world) (take l.def-index l.methods);
  reads : (t : Reading) → Reads t l.world → Reads t l.initial.world;
  grows : Grows l.initial.world l.world;
}
