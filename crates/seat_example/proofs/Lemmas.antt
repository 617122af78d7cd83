-- The words that the answers of this crate are written in: its lemmas and definitions, and those of crates below.
pub use Rattle.seat_example.proofs.Below.{MaySign, Some, refl}
pub use Rattle.seat_example.proofs.Names.{may_still, one_more, popped}
pub use Rattle.seat_example.specs.declared.sign.TheConstants.{ROUNDS}
