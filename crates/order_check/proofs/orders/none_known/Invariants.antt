use Rattle.order_check.proofs.Below.{length, orders, AllNone}
use Rattle.std.proofs.Common.{◌≡◌}
use Rattle.order_check.proofs.orders.none_known.Given as goal

abbrev pub invariant-loop-place : goal.invariant-loop-place
invariant-loop-place l = record { count : length l.known.items ≡ l.place; none : AllNone (orders l.known.items) }
