-- What the contracts of the rows of operators say.
use Rattle.proto_ops.specs.Below.{ℕ, Bool, false, cond, List, [], Result, Option, Some, None, Ok, Raised as Fault, NotConcatenable, NotRepeatable, PyObjectRef, SeqItem, SlotEntry, Answer, Value, OperatorTask, Step, DoBinOp1, DoConcat, DoInplaceConcat, DoRepeat, DoInplaceRepeat, DoPower, DoInt, ToOperator, AsValue, Ended, PlainWorld, Row, slot_at, start, pass, end, fault, or_else, not_implemented, is_not_implemented, World, Reading, operator_job, Goes, Group, Point, Claim, IsNode}
use Rattle.std.specs.Prelude.{◌∷◌}
use Rattle.row_kit.specs.Points as points
use Rattle.py_node.specs.declared.entry.IntNative.TheVariants as int
use Rattle.proto_ops.specs.declared.OperatorKept.{OperatorKept}
use Rattle.proto_ops.specs.declared.OperatorKept.TheVariants.{Pass, OrElse, Times, InplaceTimes}
use Rattle.proto_ops.specs.declared.Otherwise.{Otherwise}
use Rattle.proto_ops.specs.declared.Otherwise.TheVariants as otherwise
use Rattle.proto_ops.specs.declared.powers.Tried.{Tried}
use Rattle.proto_ops.specs.Binary.{in_turn, unsupported}
use Rattle.proto_ops.specs.Powers.{power_in_turn}
use Rattle.proto_ops.specs.Say.{operator_say}
use Rattle.proto_ops.specs.Sequences.{counted_rest, joined, repeated}

-- what is left to try
abbrev pub left_over : Option SlotEntry → List SlotEntry
left_over None = []
left_over (Some s) = s ∷ []

-- the candidates of a power, and the number of the way in which a third one may count
abbrev pub entries_of : Tried → List SlotEntry
entries_of p = p.first ∷ left_over p.second

abbrev pub way_of : Bool → ℕ
way_of third = cond third 1 0

-- what a row does where an answer is not for its operands
abbrev pub otherwise_row : Otherwise → PlainWorld → Row
otherwise_row otherwise.Unsupported w = unsupported w
otherwise_row (otherwise.Candidate next a b) w = in_turn w a b (left_over next)
otherwise_row (otherwise.Operator op a b) w = start (pass w (ToOperator (DoBinOp1 op a b))) (end w)
otherwise_row (otherwise.Join a b) w = start (joined w (slot_at w a SeqItem) (ToOperator (DoConcat a b))) (end w)
otherwise_row (otherwise.InplaceJoin a b) w = start (joined w (slot_at w a SeqItem) (ToOperator (DoInplaceConcat a b))) (end w)
otherwise_row otherwise.NotConcatenable w = end w (fault NotConcatenable)
otherwise_row (otherwise.RepeatOne a b) w = repeated w (λ z. ToOperator (DoRepeat a z)) (λ z. ToOperator (DoRepeat b z)) a b
otherwise_row (otherwise.InplaceRepeatOne a b) w = repeated w (λ z. ToOperator (DoInplaceRepeat a z)) (λ z. ToOperator (DoRepeat b z)) a b
otherwise_row otherwise.NotRepeatable w = end w (fault NotRepeatable)
otherwise_row (otherwise.PowerFirst p a b c) w = power_in_turn w a b c (way_of p.third) (entries_of p) (left_over p.second)
otherwise_row (otherwise.PowerLast p a b c) w = power_in_turn w a b c (way_of p.third) (entries_of p) []
otherwise_row (otherwise.Power a b c) w = start (pass w (ToOperator (DoPower a b c))) (end w)

-- what is done with the answer where this is kept
abbrev pub operator_stands : Reading → OperatorKept → Ended → Point
operator_stands t Pass r w = end w r
operator_stands t (OrElse rest) r w = or_else w r (otherwise_row rest w)
operator_stands t (Times a) r w = counted_rest w (λ z. ToOperator (DoRepeat a z)) r
operator_stands t (InplaceTimes a) r w = counted_rest w (λ z. ToOperator (DoInplaceRepeat a z)) r

-- what is said of what is kept
abbrev pub of_otherwise : Otherwise → List Claim
of_otherwise otherwise.Unsupported = []
of_otherwise (otherwise.Candidate next a b) = IsNode a ∷ IsNode b ∷ []
of_otherwise (otherwise.Operator op a b) = IsNode a ∷ IsNode b ∷ []
of_otherwise (otherwise.Join a b) = IsNode a ∷ IsNode b ∷ []
of_otherwise (otherwise.InplaceJoin a b) = IsNode a ∷ IsNode b ∷ []
of_otherwise otherwise.NotConcatenable = []
of_otherwise (otherwise.RepeatOne a b) = IsNode a ∷ IsNode b ∷ []
of_otherwise (otherwise.InplaceRepeatOne a b) = IsNode a ∷ IsNode b ∷ []
of_otherwise otherwise.NotRepeatable = []
of_otherwise (otherwise.PowerFirst p a b c) = IsNode a ∷ IsNode b ∷ IsNode c ∷ []
of_otherwise (otherwise.PowerLast p a b c) = IsNode a ∷ IsNode b ∷ IsNode c ∷ []
of_otherwise (otherwise.Power a b c) = IsNode a ∷ IsNode b ∷ IsNode c ∷ []

abbrev pub of_operator_kept : OperatorKept → List Claim
of_operator_kept Pass = []
of_operator_kept (OrElse rest) = of_otherwise rest
of_operator_kept (Times a) = IsNode a ∷ []
of_operator_kept (InplaceTimes a) = IsNode a ∷ []

-- the group: the row of a task, and what is done with an answer
abbrev pub operator_group : Group OperatorTask OperatorKept
operator_group = record { row = λ t task w. operator_say w (operator_job t task); stands = operator_stands }

abbrev pub Begins : OperatorTask → World → World → Step OperatorKept → Type 0
Begins = points.Begins operator_group

abbrev pub Resumes : OperatorKept → Result Answer Fault → World → World → Step OperatorKept → Type 0
Resumes = points.Resumes operator_group

-- whether an answer says that what was asked is not for its operands
abbrev pub is_unserved : Ended → Bool
is_unserved (Ok (AsValue x)) = is_not_implemented x
is_unserved _ = false

-- the step where it says so
abbrev pub GoesOn : Otherwise → World → World → Step OperatorKept → Type 0
GoesOn rest = Resumes (OrElse rest) (Ok (Value not_implemented))

-- the sum of two objects
abbrev pub Sums : PyObjectRef → PyObjectRef → World → World → Step OperatorKept → Type 0
Sums a b = Goes operator_group (λ t w. operator_say w (DoInt int.Add (a ∷ b ∷ []) []))
