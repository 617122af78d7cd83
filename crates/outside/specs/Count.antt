-- A count of faults, and when it has risen.
use Rattle.outside.specs.Below.{ℕ}
use Rattle.std.specs.Prelude.{◌≡◌, ◌<◌, ◌-◌, ◌^◌, ◌⊎◌}

-- the count is higher now; one that stands at its last value counts as higher
abbrev pub Rose : ℕ → ℕ → Type 0
Rose old new = (old < new) ⊎ (old ≡ 2 ^ 64 - 1)
