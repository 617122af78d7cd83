use Rattle.order_check.proofs.Below.{All, length, orders, AreKnown, IsFound}
use Rattle.std.proofs.Common.{◌≡◌}
use Rattle.order_check.proofs.levels.keep.Given as goal

abbrev pub invariant-loop-one : goal.invariant-loop-one
invariant-loop-one l = record {
  count : length l.known.items ≡ length l.entries;
  known : AreKnown l.entries (orders l.known.items);
  found : All (IsFound l.entries) l.found.items;
}

abbrev pub decreases-loop-one : goal.decreases-loop-one
decreases-loop-one l = length l.found.items
