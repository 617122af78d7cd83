-- The words of crates below that the definitions and contracts of this crate are written in.
pub use Rattle.atomic_table.specs.Seated.{TableId}
pub use Rattle.atomic_table.specs.Table.{Me, State, Step, rest}
pub use Rattle.atomic_table.specs.declared.shared.Seat.{Seat}
pub use Rattle.std.specs.List.{All, filter, sum_by}
pub use Rattle.std.specs.Prelude.{Bool, IfErr, IfOk, IsOk, List, None, Option, Some, [], false, length, map, slice_get, suc, true, vec_capacity, vec_len, zero, ℕ}
