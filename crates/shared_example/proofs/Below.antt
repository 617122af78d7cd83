-- The words that the lemmas of this crate are written in: its own definitions, and words and lemmas of crates below.
pub use Rattle.py_node.specs.Tree.{Tree}
pub use Rattle.seat_lock.specs.Known.{IsFree, Known, TableId}
pub use Rattle.shared_vm.specs.Turns.{Executed}
pub use Rattle.shared_vm.specs.declared.entry.Entry.{Entry}
pub use Rattle.shared_vm.specs.declared.entry.Receipt.{Receipt}
pub use Rattle.std.proofs.Common.{List, Ok, Option, Some, ap, subst, ℕ, ◌∙◌}
pub use Rattle.std.proofs.Crossing.{crosses}
pub use Rattle.std.proofs.lemmas.List.Elements.{All-pop}
pub use Rattle.std.specs.List.{All}
pub use Rattle.std.specs.Prelude.{IfSome, option_to_list}
