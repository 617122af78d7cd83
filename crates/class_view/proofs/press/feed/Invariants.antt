use Rattle.class_view.proofs.Below.{drop, length, map, change_of}
use Rattle.std.proofs.Common.{◌≡◌, ◌≤◌, ◌-◌, ◌++◌}
use Rattle.class_view.proofs.press.feed.Given as goal

abbrev pub invariant-loop-fed : goal.invariant-loop-fed
invariant-loop-fed l =
    (l.fed ≤ length l.changes)
    × (l.publisher.desk ≡ l.fn.publisher.desk)
    × (drop l.publisher.behind l.publisher.log.items ++ drop l.fed (map change_of l.changes) ≡ drop l.fn.publisher.behind l.fn.publisher.log.items ++ drop l.fn.fed (map change_of l.changes))

abbrev pub decreases-loop-fed : goal.decreases-loop-fed
decreases-loop-fed l = length l.changes - l.fed
