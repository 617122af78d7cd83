use Rattle.row_kit.proofs.Below.{drop, has_null}
use Rattle.std.proofs.Common.{◌≡◌}
use Rattle.row_kit.proofs.questions.has_null.Given as goal

abbrev pub invariant-loop-byte : goal.invariant-loop-byte
invariant-loop-byte l = has_null (drop l.byte-index l.bytes) ≡ has_null l.bytes
