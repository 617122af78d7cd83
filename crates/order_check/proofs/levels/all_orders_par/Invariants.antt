use Rattle.order_check.proofs.Below.{All, length, orders, AreKnown}
use Rattle.std.proofs.Common.{◌≡◌, ◌<◌}
use Rattle.order_check.proofs.levels.all_orders_par.Given as goal

abbrev pub invariant-loop-places : goal.invariant-loop-places
invariant-loop-places g l = record {
  count : length l.known.items ≡ length l.entries;
  known : AreKnown l.entries (orders l.known.items);
  places : All (λ place. place < length l.entries) l.places.items;
}

abbrev pub decreases-loop-places : goal.decreases-loop-places
decreases-loop-places g l = length l.places.items
