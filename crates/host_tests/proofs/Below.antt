-- The words that the lemmas of this crate are written in: its own definitions, and words and lemmas of crates below.
pub use Rattle.class_view.specs.declared.writer.Told.{Told}
pub use Rattle.py_node.specs.Tree.{Text, Tree}
pub use Rattle.py_node.specs.declared.refs.PyStrInterned.{PyStrInterned}
pub use Rattle.seat_lock.specs.Known.{IsFree, Known, TableId}
pub use Rattle.seat_lock.specs.declared.history.Turn.{Turn}
pub use Rattle.shared_vm.specs.Turns.{Executed, Leaves, Makes, Named}
pub use Rattle.shared_vm.specs.ViewedVm.Published.{Published}
pub use Rattle.shared_vm.specs.declared.entry.Entry.{Entry}
pub use Rattle.shared_vm.specs.declared.entry.ExecFault.{ExecFault}
pub use Rattle.shared_vm.specs.declared.entry.ExecFault.TheVariants.{Failed, OutOfMemory}
pub use Rattle.shared_vm.specs.declared.entry.Receipt.{Receipt}
pub use Rattle.std.proofs.Common.{Err, List, Ok, Option, Result, ap, ℕ, ◌∙◌}
