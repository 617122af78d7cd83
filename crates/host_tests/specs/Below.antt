-- The words of crates below that the definitions and contracts of this crate are written in.
pub use Rattle.class_world.specs.Sound.{AllHold, of_class_ref, of_each}
pub use Rattle.seat_lock.specs.Known.{IsFree}
pub use Rattle.std.specs.List.{All}
pub use Rattle.std.specs.Prelude.{length, vec_len}
