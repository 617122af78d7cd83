use Rattle.order_check.proofs.Below.{length, unknown}
use Rattle.std.proofs.Common.{◌≡◌}
use Rattle.order_check.proofs.ranks.none_ranked.Given as goal

abbrev pub invariant-loop-place : goal.invariant-loop-place
invariant-loop-place l = record { count : length l.ranks.items ≡ l.place; none : unknown l.ranks.items ≡ l.place }
