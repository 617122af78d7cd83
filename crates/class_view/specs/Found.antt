-- When a reader says that it is gone.
use Rattle.class_view.specs.Below.{ℕ, Result, Ok, Err}
use Rattle.std.specs.Prelude.{◌<◌}
use Rattle.class_view.specs.declared.reader.ReaderFault.{ReaderFault}
use Rattle.class_view.specs.declared.reader.ReaderFault.TheVariants as fault

-- where the reader says that it is gone, the count of faults rose
abbrev pub IsGone : {T : Type 0} → Result T ReaderFault → ℕ → ℕ → Type 0
IsGone (Ok x) old new = Unit {0}
IsGone (Err fault.Gone) old new = old < new
IsGone (Err fault.OutOfMemory) old new = Unit {0}
