-- The words that the lemmas of this crate are written in: its own definitions, and words and lemmas of crates below.
pub use Rattle.seat_example.specs.Below.{MOST_TURNS, Turn}
pub use Rattle.seat_example.specs.Sheets.{names_in, newest}
pub use Rattle.seat_example.specs.Signed.{MaySign, Signed}
pub use Rattle.seat_lock.specs.Known.{IsSameSeat, Known, TableId}
pub use Rattle.std.proofs.Common.{List, None, Option, Some, [], ap, false, inl, inr, length, refl, subst, sym, ℕ, ◌∙◌}
pub use Rattle.std.proofs.lemmas.List.{append-nil}
pub use Rattle.std.proofs.lemmas.List.Elements.{All-pop, filter_map-append}
pub use Rattle.std.specs.List.{All}
pub use Rattle.std.specs.Prelude.{IfSome, option_to_list, slice_get}
