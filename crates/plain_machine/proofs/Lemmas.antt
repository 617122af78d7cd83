-- The words that the answers of this crate are written in: its lemmas and definitions, and those of crates below.
pub use Rattle.plain_machine.proofs.Kept.{keeps-sound}
