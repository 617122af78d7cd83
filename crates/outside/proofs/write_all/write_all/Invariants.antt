-- As many bytes as `at` have gone out, and the sink is sure of the others where it was sure of all.
use Rattle.outside.proofs.Below.{length, take, Some, ForSome}
use Rattle.std.proofs.Common.{◌-◌, ◌+◌, ◌≡◌, ◌≤◌, ◌++◌}
use Rattle.outside.proofs.write_all.write_all.Given as goal

abbrev pub invariant-loop-at : goal.invariant-loop-at
invariant-loop-at g l = record {
  within : l.at ≤ length l.bytes;
  later : g.K.Sink.faults l.fn.sink ≤ g.K.Sink.faults l.sink;
  front : ForSome (g.K.Sink.taken l.fn.sink) (λ old. g.K.Sink.taken l.sink ≡ Some (old ++ take l.at l.bytes));
  sure : length l.bytes ≤ g.K.Sink.sure l.fn.sink → length l.bytes ≤ g.K.Sink.sure l.sink + l.at;
}

abbrev pub decreases-loop-at : goal.decreases-loop-at
decreases-loop-at g l = length l.bytes - l.at
