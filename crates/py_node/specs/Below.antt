-- The words of crates below that the definitions and contracts of this crate are written in.
pub use Rattle.std.specs.Global.{Box}
pub use Rattle.std.specs.HashSet.{HashSet}
pub use Rattle.std.specs.Int.RustNames.{bit_and}
pub use Rattle.std.specs.List.{IsDistinct, list_any, remove}
pub use Rattle.std.specs.Map.{keys_of}
pub use Rattle.std.specs.Ordering.{int_eq}
pub use Rattle.std.specs.Prelude.{Bool, Err, IfNone, IfOk, IfSome, IsOk, List, None, OnErr, OnOk, Option, Some, String, [], codes, cond, drop, eqb, false, is_some, length, map, option_and_then, option_map, position, replicate, slice_get, slice_index_or, slice_set, string_bytes, take, true, ℕ, ℤ, ⊤}
pub use Rattle.std.specs.declared.alloc.Global.{Global}
