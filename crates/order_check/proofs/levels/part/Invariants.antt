use Rattle.order_check.proofs.Below.{All, length}
use Rattle.std.proofs.Common.{◌≡◌, ◌+◌, ◌<◌}
use Rattle.order_check.proofs.levels.part.Given as goal

abbrev pub invariant-loop-place : goal.invariant-loop-place
invariant-loop-place l = record {
  level : All (λ place. place < length l.entries) l.level.items;
  above : All (λ place. place < length l.entries) l.above.items;
  all : length l.level.items + length l.above.items ≡ l.place-index;
}
