use Rattle.seat_lock.proofs.Below.{ℕ, suc, [], Some, vec_len, slice_get, vec_capacity, blank_view, fresh_seat}
use Rattle.std.proofs.Common.{◌≡◌, ◌-◌, ◌<◌, ◌≤◌}
use Rattle.seat_lock.proofs.dealing.deal.Given as goal

abbrev pub invariant-loop-number : goal.invariant-loop-number
invariant-loop-number g l = record {
  here : l.first.table_id ≡ l.board.table_id;
  left : l.first.me ≡ (blank_view l.number (suc (l.last - l.number)), []);
  room : l.seats ≤ vec_capacity l.row;
  long : vec_len l.row ≡ l.number;
  dealt : (k : ℕ) → k < l.number → slice_get l.row.items k ≡ Some (fresh_seat l.board.table_id k);
}
