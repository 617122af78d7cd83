use Rattle.std.proofs.Common.{◌≡◌, ◌-◌, ◌≤◌}
use Rattle.proto_ops.proofs.Below.{repeat}
use Rattle.proto_ops.proofs.native_repeats.repeated.items_times.Given as goal

abbrev pub invariant-loop : goal.invariant-loop
invariant-loop l = record { below : l.counter ≤ l.times; items : l.all.items ≡ repeat l.counter l.items }

abbrev pub decreases-loop : goal.decreases-loop
decreases-loop l = l.times - l.counter
