-- The words that the answers of this crate are written in: its lemmas and definitions, and those of crates below.
pub use Rattle.shared_example.proofs.Sent.{adder_send, vm_sync}
pub use Rattle.std.proofs.Crossing.{crosses}
