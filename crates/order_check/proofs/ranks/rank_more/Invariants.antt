use Rattle.order_check.proofs.Below.{length, unknown, IsRanking, IsStuckTo}
use Rattle.std.proofs.Common.{◌≡◌, ◌+◌, ◌≤◌}
use Rattle.order_check.proofs.ranks.rank_more.Given as goal

abbrev pub invariant-loop-place : goal.invariant-loop-place
invariant-loop-place l = record {
  count : length l.ranks.items ≡ length l.entries;
  ranking : IsRanking l.entries l.ranks.items l.after;
  room : l.after + unknown l.ranks.items ≤ length l.entries;
  next : l.next ≤ l.after;
  stuck : l.after ≡ l.next → IsStuckTo l.entries l.ranks.items l.place;
}
