use Rattle.seat_lock.proofs.Below.{List, vec_len, All, Known, IsFree, Gathered}
use Rattle.std.proofs.Common.{◌≡◌, ◌++◌}
use Rattle.seat_lock.proofs.ending.gather.Given as goal

abbrev pub invariant-loop-next : goal.invariant-loop-next
invariant-loop-next g l = (done : List (Known g.row.T-Entry.Denot)) × (l.fn.seats.items ≡ l.seats.items ++ done) × All (IsFree l.board.table_id) l.seats.items × Gathered l.board.table_id done l.all

abbrev pub decreases-loop-next : goal.decreases-loop-next
decreases-loop-next g l = vec_len l.seats
