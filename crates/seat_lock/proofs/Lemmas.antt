-- The words that the answers of this crate are written in: its lemmas and definitions, and those of crates below.
pub use Rattle.seat_lock.proofs.Below.{Gathered, HasOneHistory, blank_view, founder, fresh_seat, opening, slice_get, ticket_of}
pub use Rattle.seat_lock.proofs.Cutting.{copies, cuts, merges}
pub use Rattle.seat_lock.proofs.Drawing.{draws}
pub use Rattle.seat_lock.proofs.Ends.{opens}
pub use Rattle.seat_lock.proofs.Leaving.{leaves_after}
pub use Rattle.seat_lock.proofs.Looking.{learns, looks}
pub use Rattle.seat_lock.proofs.Rows.{dealt_more, ends, free_row, gathered_more, gathered_one, moved_over, nil_of, none_left, popped, some_of, whole}
pub use Rattle.seat_lock.proofs.Turning.{after_turn, cut_off, free_place, fresh_known, learnt_own, left_over, made_turn, one_slot, room_left, took, took_seen}
pub use Rattle.std.proofs.Common.{Some, [], ap, ap₂, arith, refl, rules, subst, suc, sym, ℕ, ◌∙◌}
