use Rattle.order_check.proofs.Below.{length, unknown, IsRanking}
use Rattle.std.proofs.Common.{◌≡◌, ◌+◌, ◌-◌, ◌≤◌}
use Rattle.order_check.proofs.ranks.are_apart.Given as goal

abbrev pub invariant-loop-next : goal.invariant-loop-next
invariant-loop-next l = record {
  count : length l.ranks.items ≡ length l.entries;
  ranking : IsRanking l.entries l.ranks.items l.next;
  room : l.next + unknown l.ranks.items ≤ length l.entries;
}

abbrev pub decreases-loop-next : goal.decreases-loop-next
decreases-loop-next l = length l.entries - l.next
