-- What the contracts of the rows of comparisons say.
use Rattle.proto_ops.specs.Below.{Bool, true, cond, List, [], Result, Raised as Fault, PyObjectRef, PyComparisonOp, CompareTask, Answer, Step, PlainWorld, DoBoolEq, ToCompare, Ended, Row, ask, end, or_else, on_truth, on_value, World, Reading, compare_job, Group, Point, Claim, IsNode}
use Rattle.std.specs.Prelude.{◌∷◌}
use Rattle.row_kit.specs.Points as points
use Rattle.proto_ops.specs.declared.proto_compare.CompareKept.{CompareKept}
use Rattle.proto_ops.specs.declared.proto_compare.CompareKept.TheVariants.{Pass, First, Second, Counts, Ordered, Equal}
use Rattle.proto_ops.specs.ProtoCompare.Say.{by_identity, compare_job_say, counts, decided, left_asked, right_asked, truth_of, unless_equal}

-- the operand that was not asked first is asked
abbrev pub other_asked : PlainWorld → Bool → PyObjectRef → PyObjectRef → PyComparisonOp → Row
other_asked w right_first a b o = cond right_first (left_asked w a b o) (right_asked w a b o) (λ s. or_else w s (by_identity w a b o))

-- what is done with the answer where this is kept
abbrev pub compare_stands : Reading → CompareKept → Ended → Point
compare_stands t Pass r w = end w r
compare_stands t (First right_first a b o) r w = or_else w r (other_asked w right_first a b o)
compare_stands t (Second a b o) r w = or_else w r (by_identity w a b o)
compare_stands t Counts r w = on_value w r (λ x. counts w (truth_of x) x)
compare_stands t (Ordered a b) r w = on_truth w r (λ holds. cond holds (decided w true) (ask w (ToCompare (DoBoolEq a b)) (unless_equal w)))
compare_stands t Equal r w = unless_equal w r

-- what is said of what is kept
abbrev pub of_compare_kept : CompareKept → List Claim
of_compare_kept (First right_first a b o) = IsNode a ∷ IsNode b ∷ []
of_compare_kept (Second a b o) = IsNode a ∷ IsNode b ∷ []
of_compare_kept (Ordered a b) = IsNode a ∷ IsNode b ∷ []
of_compare_kept _ = []

-- the group: the row of a task, and what is done with an answer
abbrev pub compare_group : Group CompareTask CompareKept
compare_group = record { row = λ t task w. compare_job_say w (compare_job task); stands = compare_stands }

abbrev pub Begins : CompareTask → World → World → Step CompareKept → Type 0
Begins = points.Begins compare_group

abbrev pub Resumes : CompareKept → Result Answer Fault → World → World → Step CompareKept → Type 0
Resumes = points.Resumes compare_group
