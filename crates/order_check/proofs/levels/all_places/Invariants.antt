use Rattle.order_check.proofs.Below.{All}
use Rattle.std.proofs.Common.{◌<◌}
use Rattle.order_check.proofs.levels.all_places.Given as goal

abbrev pub invariant-loop-place : goal.invariant-loop-place
invariant-loop-place l = All (λ place. place < l.count) l.places.items
