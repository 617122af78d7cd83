use Rattle.native_containers.proofs.Below.{take, fold, hashed_on}
use Rattle.std.proofs.Common.{◌≡◌}
use Rattle.native_containers.proofs.native_texts.of_bytes.hash_of.Given as goal

abbrev pub invariant-loop-byte : goal.invariant-loop-byte
invariant-loop-byte l = l.hash ≡ fold hashed_on 14695981039346656037 (take l.byte-index l.bytes)
