-- What the contracts of comparisons of items say.
use Rattle.native_containers.specs.Below.{List, [], drop, zip, Result, Raised as Fault, CompareNative, Answer, Task, Step, PlainWorld, Said, ReadObjects, Told, World, Reading, task_of, Claim, AreNodes, Ended}
use Rattle.std.specs.Prelude.{◌≡◌, ◌∷◌}
use Rattle.row_kit.specs.Points as points
use Rattle.row_kit.specs.Points.{Group, Point}
use Rattle.native_containers.specs.declared.native_compare.ComparedKept.{ComparedKept}
use Rattle.native_containers.specs.NativeCompare.Containers.{Objects, Pairs, answered, in_turn, items_compared}
use Rattle.native_containers.specs.NativeCompare.Say.{compared_job_say}

-- the items that are left to compare
abbrev pub left : ComparedKept → Pairs
left k = zip (drop k.next k.first.items) (drop k.next k.second.items)

-- what is done with the answer where this is kept
abbrev pub compared_stands : Reading → ComparedKept → Ended → Point
compared_stands t k r w = answered w k.way k.last r (in_turn w k.way k.last (left k))

-- what is said of what is kept
abbrev pub of_compared_kept : ComparedKept → List Claim
of_compared_kept k = AreNodes k.first.items ∷ AreNodes k.second.items ∷ []

-- the group: the row of a task, and what is done with an answer
abbrev pub compared_group : Group Task ComparedKept
compared_group = record { row = λ t task w. compared_job_say w (task_of t task); stands = compared_stands }

abbrev pub Begins : Task → World → World → Step ComparedKept → Type 0
Begins = points.Begins compared_group

abbrev pub Resumes : ComparedKept → Result Answer Fault → World → World → Step ComparedKept → Type 0
Resumes = points.Resumes compared_group

-- the items that are left are asked in turn
abbrev pub TakesTurn : ComparedKept → World → Step ComparedKept → Type 0
TakesTurn k w = points.Goes compared_group (λ t u. in_turn u k.way k.last (left k)) w w

-- a row compares what it has read
abbrev pub Comparing : CompareNative → (Reading → Point) → Type 0
Comparing n row =
    (t : Reading) (u : PlainWorld) (xs ys : Objects) (more : Told) → row t u (ReadObjects xs ∷ (ReadObjects ys ∷ more)) ≡ items_compared u n xs ys more

-- the step of such a row, whichever it is, which is said to be this
abbrev pub Compares : CompareNative → (Reading → PlainWorld → Said) → World → Step ComparedKept → Type 0
Compares n said w step = (row : Reading → Point) → Comparing n row → points.Follows compared_group row said w w step
