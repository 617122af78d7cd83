use Rattle.order_check.proofs.Below.{true, false, length, orders, AreKnown, IsClosedTo, unknown}
use Rattle.std.proofs.Common.{◌≡◌, ◌<◌, ◌≤◌}
use Rattle.order_check.proofs.orders.try_all.Given as goal

abbrev pub invariant-loop-place : goal.invariant-loop-place
invariant-loop-place l = record {
  count : length l.known.items ≡ length l.entries;
  known : AreKnown l.entries (orders l.known.items);
  fewer : unknown (orders l.known.items) ≤ unknown (orders l.fn.known.items);
  found : l.found ≡ true → unknown (orders l.known.items) < unknown (orders l.fn.known.items);
  closed : l.found ≡ false → IsClosedTo l.entries (orders l.known.items) l.place;
}
