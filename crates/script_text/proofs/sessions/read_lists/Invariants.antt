use Rattle.script_text.proofs.Below.{drop, length, vec_len, All, items_view, TOO_MANY, lists_in, session_trees}
use Rattle.std.proofs.Common.{◌≡◌, ◌<◌}
use Rattle.script_text.proofs.JsonText.Lists.{onto}
use Rattle.script_text.proofs.sessions.read_lists.Given as goal

abbrev pub invariant-loop-item : goal.invariant-loop-item
invariant-loop-item l = record {
  read : lists_in (items_view l.items) ≡ onto (session_trees l.sessions.items) (lists_in (items_view (drop l.item-index l.items)));
  len : length l.sessions.items ≡ l.item-index;
  few : All (λ s. vec_len s < TOO_MANY) l.sessions.items;
}
