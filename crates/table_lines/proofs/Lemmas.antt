-- The words that the answers of this crate are written in: its lemmas and definitions, and those of crates below.
pub use Rattle.class_world.proofs.DictChanges.{none-hold}
pub use Rattle.class_world.proofs.Stored.{names-push, no-names}
unfoldable pub use Rattle.class_world.specs.Sound.{Holds}
pub use Rattle.std.proofs.Common.{[], refl}
pub use Rattle.table_lines.proofs.MachineLines.Methods.{with-nothing}
