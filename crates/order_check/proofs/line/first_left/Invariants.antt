use Rattle.order_check.proofs.Below.{drop, past, first_of}
use Rattle.std.proofs.Common.{◌≡◌}
use Rattle.order_check.proofs.line.first_left.Given as goal

abbrev pub invariant-loop-key : goal.invariant-loop-key
invariant-loop-key l = first_of (past l.seen (drop l.key-index l.list)) ≡ first_of (past l.seen l.list)
