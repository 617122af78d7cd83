-- The words of crates below that the definitions and contracts of this crate are written in.
pub use Rattle.std.specs.Bool.{IsTrue, OnTrue}
pub use Rattle.std.specs.Char.{is_ascii_digit}
pub use Rattle.std.specs.List.{list_all, list_any}
pub use Rattle.std.specs.Option.{ForSome}
pub use Rattle.std.specs.Prelude.{Bool, IfOk, IfSome, IsErr, IsErrOf, IsOk, IsOkAnd, List, None, OnErr, OnOk, Option, Some, [], bytes_eq, codes, drop, false, is_err, length, map, min, nat_le, not, option_map, string_bytes, take, vec_capacity, vec_len, ℕ}
pub use Rattle.std.specs.Str.Parse.{digits_value}
