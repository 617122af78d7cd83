use Rattle.native_containers.proofs.Below.{string_bytes, Reading, plain}
use Rattle.native_containers.proofs.NativeConversions.Joined.{UpTo}
use Rattle.native_containers.proofs.native_conversions.texts.container_text.Given as goal

abbrev pub invariant-loop-i : goal.invariant-loop-i
invariant-loop-i l = (t : Reading) → UpTo (plain t l.world) l.container l.texts (string_bytes l.text) l.i
