use Rattle.class_table.proofs.Below.{drop, members_in, numbers, classes_of}
use Rattle.std.proofs.Common.{◌≡◌, ◌+◌}
use Rattle.class_table.proofs.count.count_along.Given as goal

abbrev pub invariant-loop-class : goal.invariant-loop-class
invariant-loop-class l =
    l.count + members_in (classes_of l.classes) (numbers (drop l.class-index l.line)) ≡ l.own + members_in (classes_of l.classes) (numbers l.line)
