use Rattle.class_table.proofs.Below.{drop, layout_along, members_in, place_along, numbers, classes_of}
use Rattle.std.proofs.Common.{◌≡◌}
use Rattle.class_table.proofs.member_place.place_along.Given as goal

-- so many places are still before those that were passed, and the offset stands for one of them, if for any
abbrev pub invariant-loop-owner : goal.invariant-loop-owner
invariant-loop-owner l =
    let t = classes_of l.classes in
    let rest = numbers (drop l.owner-index l.line) in
    (l.before ≡ members_in t rest) × (place_along t (layout_along t (numbers l.line)) l.offset ≡ place_along t (layout_along t rest) l.offset)
