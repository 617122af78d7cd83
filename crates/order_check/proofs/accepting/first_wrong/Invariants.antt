use Rattle.order_check.proofs.Below.{ℕ, IsRightAt, orders_told, AreToldTo}
use Rattle.std.proofs.Common.{◌+◌, ◌<◌}
use Rattle.order_check.proofs.accepting.first_wrong.Given as goal

abbrev pub invariant-loop-place : goal.invariant-loop-place
invariant-loop-place l = record {
  told : AreToldTo l.told.entries.now (orders_told l.told.root.now l.told.lines.now) (l.place + 1);
  right : (k : ℕ) → k < l.place → IsRightAt l.told.entries.now l.told.lines.now k;
}
