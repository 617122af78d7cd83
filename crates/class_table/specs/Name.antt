-- The part of a name past its last dot.
use Rattle.class_table.specs.Below.{ℕ, suc, slice_index_or, length, drop, Text, dot}
use Rattle.std.specs.Prelude.{◌≡◌, ◌<◌, ◌≤◌, ◌⊎◌}

-- the part of a name after its last dot, or all of it
pub record IsLastPart (name part : Text) : Type 0 where
  pub start : ℕ
  pub text : part ≡ drop start name
  -- it begins where the name does, or past a dot
  pub past : (start ≡ 0) ⊎ ((i : ℕ) × (start ≡ suc i) × (i < length name) × (slice_index_or name i 0 ≡ dot))
  -- and has no dot
  pub last : (i : ℕ) → start ≤ i → i < length name → slice_index_or name i 0 ≡ dot → ⊥
