-- The words of crates below that the definitions and contracts of this crate are written in.
pub use Rattle.class_model.specs.Class.{found, is_sub, lin}
pub use Rattle.class_table.specs.ClassLog.Change.{Change, DelOwn, Make, SetBases, SetOwn, change_of, made_of}
pub use Rattle.class_table.specs.ClassLog.Following.{BeginsWith, CanFollow}
pub use Rattle.class_table.specs.ClassLog.Refused.{IsFit, refused}
pub use Rattle.class_table.specs.ClassLog.Shown.{shown}
pub use Rattle.class_table.specs.Keys.{numbers, slot_names}
pub use Rattle.class_table.specs.Rebase.{told}
pub use Rattle.class_table.specs.Refused.{WithMemory}
pub use Rattle.left_right.specs.Sides.{view}
pub use Rattle.left_right.specs.declared.reader.Reader.{Reader}
pub use Rattle.py_node.specs.Attributes.{is_same_name}
pub use Rattle.std.specs.Fn.{FnOnceReturnsAt}
pub use Rattle.std.specs.Prelude.{Err, IfOk, IfSome, IsTrue, List, MatchResult, None, Ok, OnErr, OnOk, Option, Result, Some, [], drop, is_some, length, map, option_map, vec_len, ℕ}
