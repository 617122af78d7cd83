-- The words that the lemmas of this crate are written in: its own definitions, and words and lemmas of crates below.
pub use Rattle.class_world.proofs.Claims.{all-append, no-nodes}
pub use Rattle.class_world.specs.Claims.{of_args, of_method}
pub use Rattle.class_world.specs.Held.{Held}
pub use Rattle.class_world.specs.Sound.{AllHold}
pub use Rattle.py_node.specs.declared.task.PyMethod.{PyMethod}
pub use Rattle.std.proofs.Common.{[]}
