-- The words of crates below that the definitions and contracts of this crate are written in.
pub use Rattle.seat_lock.specs.Known.{IsFree, Known, TableId, with_turn}
pub use Rattle.seat_lock.specs.declared.history.Turn.{Turn}
pub use Rattle.seat_lock.specs.declared.seat.TheConstants.{MOST_TURNS}
pub use Rattle.std.specs.List.{filter_map}
pub use Rattle.std.specs.Prelude.{All, List, [], false, length, slice_get, true, vec_len, ℕ}
