use Rattle.order_check.proofs.Below.{ℕ, suc, length, slice_get, OnBoth, IsLine, IsFoundLine}
use Rattle.std.proofs.Common.{◌≡◌, ◌+◌, ◌<◌}
use Rattle.order_check.proofs.checking.report_of.Given as goal

abbrev pub invariant-loop-place : goal.invariant-loop-place
invariant-loop-place l = record {
  count : length l.lines.items + 1 ≡ l.place;
  right : (k : ℕ) → k < length l.lines.items → OnBoth (IsLine l.entries) (slice_get l.entries (suc k)) (slice_get l.lines.items k);
  found : (k : ℕ) → k < length l.lines.items → OnBoth (IsFoundLine l.entries) (slice_get l.entries (suc k)) (slice_get l.lines.items k);
}
