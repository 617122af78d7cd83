use Rattle.script_text.proofs.Below.{drop, items_view, members_view, any_bad, any_bad_member}
use Rattle.std.proofs.Common.{◌≡◌}
use Rattle.script_text.proofs.json_text.read.+numbers.Given as goal

abbrev pub invariant-any_bad-loop-item : goal.invariant-any_bad-loop-item
invariant-any_bad-loop-item l = any_bad (items_view l.items) ≡ any_bad (items_view (drop l.item-index l.items))

abbrev pub invariant-any_bad_member-loop-member : goal.invariant-any_bad_member-loop-member
invariant-any_bad_member-loop-member l = any_bad_member (members_view l.members.entries) ≡ any_bad_member (members_view l.member-iterator)
