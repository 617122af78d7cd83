use Rattle.native_containers.proofs.Below.{take, flat_map, repr_byte}
use Rattle.std.proofs.Common.{◌≡◌, ◌∷◌}
use Rattle.native_containers.proofs.native_texts.of_bytes.repr_text.Given as goal

abbrev pub invariant-loop-byte : goal.invariant-loop-byte
invariant-loop-byte l = l.bytes.items ≡ 39 ∷ flat_map repr_byte (take l.byte-index l.text)
