use Rattle.class_table.proofs.Below.{ℕ, length, Some, slice_get, value_of, or_else, is_called, value_at, RiseBy}
use Rattle.std.proofs.Common.{◌≡◌, ◌<◌, ◌≤◌, ◌-◌, ◌⊎◌}
use Rattle.class_table.proofs.probe.ask_some.Given as goal

abbrev pub invariant-loop-number : goal.invariant-loop-number
invariant-loop-number g l = record {
  count : length l.values ≡ 70;
  asked : (n : ℕ) → l.from ≤ n → n < l.number → slice_get l.values n ≡ Some (or_else (value_at l.fn.values n) (value_of (is_called n) l.attrs));
  others : (n : ℕ) → (n < l.from) ⊎ (l.number ≤ n) → slice_get l.values n ≡ slice_get l.fn.values n;
  steps : RiseBy 0 (l.number - l.from) l.fn.steps l.steps;
}
