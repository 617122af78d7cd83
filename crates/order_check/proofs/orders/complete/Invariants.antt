use Rattle.order_check.proofs.Below.{length, orders, AreKnown, unknown}
use Rattle.std.proofs.Common.{◌≡◌}
use Rattle.order_check.proofs.orders.complete.Given as goal

abbrev pub invariant-loop-known : goal.invariant-loop-known
invariant-loop-known l = record {
  count : length l.known.items ≡ length l.entries;
  known : AreKnown l.entries (orders l.known.items);
}

abbrev pub decreases-loop-known : goal.decreases-loop-known
decreases-loop-known l = unknown (orders l.known.items)
