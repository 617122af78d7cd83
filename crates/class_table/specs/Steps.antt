-- What is counted of a change of bases.
use Rattle.class_table.specs.Below.{ℕ}
use Rattle.std.specs.Prelude.{◌+◌, ◌≤◌}

pub record Counts : Type 0 where
  pub merges : ℕ
  pub probes : ℕ

-- no count falls, and they rise by at most these
pub record RiseBy (merges probes : ℕ) (old new : Counts) : Type 0 where
  pub merges_stay : old.merges ≤ new.merges
  pub probes_stay : old.probes ≤ new.probes
  pub few_merges : new.merges ≤ old.merges + merges
  pub few_probes : new.probes ≤ old.probes + probes
