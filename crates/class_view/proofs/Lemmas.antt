-- The words that the answers of this crate are written in: its lemmas and definitions, and those of crates below.
pub use Rattle.class_view.proofs.Alike.{changes-further, further, whole-part}
pub use Rattle.class_view.proofs.Below.{Change, PyStrInterned, View, change_of, posted, view}
pub use Rattle.class_view.proofs.Feeding.{added_last, fed-more, gives, grows, settles}
pub use Rattle.class_view.proofs.Keeping.{admits, begins_self, fold_adds, forks, merges, rises}
pub use Rattle.class_view.proofs.Looking.{looked}
pub use Rattle.py_node.specs.declared.refs.PyObjectRef.{PyObjectRef}
pub use Rattle.std.proofs.Common.{List, Some, ap, arith, drop, length, rules, sym, true, ◌∙◌}
