-- What has been read is a front of what the source had, and the rest is left.
use Rattle.outside.proofs.Below.{vec_len}
use Rattle.std.proofs.Common.{◌≡◌, ◌+◌, ◌-◌, ◌^◌, ◌≤◌}
use Rattle.outside.proofs.SoFar.{SoFar}
use Rattle.outside.proofs.read_all.read_all.Given as goal

abbrev pub invariant-loop-bytes : goal.invariant-loop-bytes
invariant-loop-bytes g l = record {
  buffer : vec_len l.buffer ≡ 65536;
  within : vec_len l.bytes ≤ 2 ^ 24 + 1;
  later : g.S.Source.faults l.fn.source ≤ g.S.Source.faults l.source;
  quiet : g.S.Source.quiet l.fn.source → g.S.Source.quiet l.source;
  told : SoFar (g.S.Source.left l.fn.source) (g.S.Source.left l.source) l.bytes.items;
}

abbrev pub decreases-loop-bytes : goal.decreases-loop-bytes
decreases-loop-bytes g l = 2 ^ 24 + 1 - vec_len l.bytes
