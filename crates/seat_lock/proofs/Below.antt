-- The words that the lemmas of this crate are written in: its own definitions, and words and lemmas of crates below.
pub use Rattle.atomic_table.proofs.Lists.{at_longer, at_set, set_again, set_else, set_here}
pub use Rattle.atomic_table.specs.Table.{Act, Allows, Final, Joins, Seen, Splits, State, Valid, carried_after, gives, keeps, opening, put_back, rest, step, stepped, takes}
pub use Rattle.seat_lock.specs.Below.{All, TableId, sum_by}
pub use Rattle.seat_lock.specs.Ending.{Gathered, account_of}
pub use Rattle.seat_lock.specs.History.{IsWhole, turns_by}
pub use Rattle.seat_lock.specs.Known.{IsFree, Known, fresh_seat, with_turn}
pub use Rattle.seat_lock.specs.Places.{Held, IsIdle, Learnt, Left, MayDraw, Place, Taken, is_held, made_of}
pub use Rattle.seat_lock.specs.Plays.{Hand, Served, account_with, copied, drawn, first_of, joined, learnt, left_turn, looked, others_of, spent, ticket_of, with_first, without_first}
pub use Rattle.seat_lock.specs.Rule.{Agrees, ByBelow, Fits, HasOneHistory, InStage, IsBelow, IsPlaced, account, blank_from, blank_view, founder, seats_of, ticket_count, tickets, total, turns_made}
pub use Rattle.seat_lock.specs.Seats.{IsOwn, known}
pub use Rattle.seat_lock.specs.declared.board.Account.{Account}
pub use Rattle.seat_lock.specs.declared.board.Stage.{Stage}
pub use Rattle.seat_lock.specs.declared.board.Stage.TheVariants.{Holds, Idle, Waits}
pub use Rattle.seat_lock.specs.declared.board.View.{View}
pub use Rattle.seat_lock.specs.declared.history.Turn.{Turn}
pub use Rattle.seat_lock.specs.declared.seat.LockSeat.TheInside.{Inside}
pub use Rattle.seat_lock.specs.declared.seat.TheConstants.{MOST_TURNS}
pub use Rattle.std.proofs.Common.{List, None, Option, Some, [], ap, append_assoc, ap₂, arith, cond, eq-eqb, eqb, false, get_or, inl, inr, length, length-append, map, ne_eqb, refl, set, subst, suc, sym, true, vec_len, zero, ℕ, ⊎_elim, ◌∙◌}
pub use Rattle.std.proofs.lemmas.List.{append-nil}
pub use Rattle.std.proofs.lemmas.List.Elements.{All-append, All-cons, All-head, All-nil, All-pop, All-tail, All-weaker, filter-append}
pub use Rattle.std.proofs.lemmas.List.Sums.{sum_by-cons}
pub use Rattle.std.proofs.lemmas.Option.{get_or_from_slice_get}
pub use Rattle.std.specs.Prelude.{IfSome, MatchOption, is_some, option_to_list, slice_get, vec_capacity}
