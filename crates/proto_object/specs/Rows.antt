-- What the contracts of the rows of what all objects can do say.
use Rattle.proto_object.specs.Below.{ℕ, true, false, cond, List, [], drop, Result, Ok, Raised as Fault, PyObjectRef, ReprType, StrType, FormatType, ObjectTask, Answer, Truth, Step, Ask, End, PlainWorld, DoIsTrue, PlainTask, ToObject, ToProtocol, Ended, Row, start, ask, pass, end, on_truth, on_value, datum_at, World, Reading, object_job, any_of, says, Group, Point, Claim, AreNodes, IsNode}
use Rattle.std.specs.Prelude.{◌∷◌}
use Rattle.py_node.specs.declared.protocol.ObjectTask.TheVariants as object
use Rattle.py_node.specs.declared.task.Task.TheVariants as task
use Rattle.py_node.specs.declared.known.Known.TheVariants as known
use Rattle.row_kit.specs.Points as points
use Rattle.proto_object.specs.declared.ObjectKept.{ObjectKept}
use Rattle.proto_object.specs.declared.ObjectKept.TheVariants as kept
use Rattle.proto_object.specs.declared.turns.Turn.{Turn}
use Rattle.proto_object.specs.declared.turns.Turn.TheVariants.{InstanceOf, SubclassOf, Derives}
use Rattle.proto_object.specs.declared.ways.Way.{Way}
use Rattle.proto_object.specs.declared.ways.Way.TheVariants.{AtOnce, Plainly, ByEach, Called}
use Rattle.proto_object.specs.Classes.{abstract_by, attribute, inst_rest, on_bases, second_rest, tuple_once}
use Rattle.proto_object.specs.Say.{object_job_say}
use Rattle.proto_object.specs.Texts.{hash_rest, text_only}

-- how a test by a class is done, as its row numbers it
abbrev pub way_number : Way → ℕ
way_number AtOnce = 0
way_number Plainly = 1
way_number ByEach = 2
way_number Called = 3

-- what is asked of each item in turn
abbrev pub asked_of : Turn → PyObjectRef → ObjectTask
asked_of (InstanceOf o) k = object.IsInstance o k
asked_of (SubclassOf d) k = object.IsSubclass d k
asked_of (Derives c) k = object.AbsSub k c

-- the same in the plain world
abbrev pub turn_job : Turn → PyObjectRef → PlainTask
turn_job turn k = ToObject (object_job (asked_of turn k))

-- the next item is asked: the first of those that are left
abbrev pub turn_step : Turn → List PyObjectRef → ObjectKept → Step ObjectKept
turn_step turn [] later = End (Ok (Truth false))
turn_step turn (r ∷ rs) later = Ask (task.Object (asked_of turn r)) later

-- an item was asked, and these are left
abbrev pub turn_rest : PlainWorld → Turn → List PyObjectRef → Ended → Row
turn_rest w turn rs r = on_truth w r (λ b. cond b (end w (says true)) (any_of w (turn_job turn) says rs))

-- what is done with the answer where this is kept
abbrev pub object_stands : Reading → ObjectKept → Ended → Point
object_stands t kept.Pass r w = end w r
object_stands t kept.AfterHash r w = hash_rest w r
object_stands t kept.AfterRepr r w = text_only w ReprType r
object_stands t kept.AfterStr r w = text_only w StrType r
object_stands t kept.AfterFormat r w = text_only w FormatType r
object_stands t kept.AfterCheck r w = on_value w r (λ v. start (pass w (ToProtocol (DoIsTrue v))) (end w))
object_stands t (kept.Each turn items next) r w = turn_rest w turn (drop next items.items) r
object_stands t (kept.AfterClass o c) r w = inst_rest w o c 0 r
object_stands t (kept.AfterBases o c) r w = inst_rest w o c 1 r
object_stands t (kept.AfterOther c) r w = on_value w r (λ k. start (abstract_by w k c) (end w))
object_stands t (kept.AfterFirst d c) r w = on_bases w r (λ b. ask w (attribute c known.Bases) (second_rest w d c))
object_stands t (kept.AfterSecond d c) r w = second_rest w d c r
object_stands t (kept.AfterOwn c) r w = on_value w r (λ b. tuple_once w (datum_at w b) (any_of w (turn_job (Derives c)) says))

abbrev pub of_turn : Turn → List Claim
of_turn (InstanceOf o) = IsNode o ∷ []
of_turn (SubclassOf d) = IsNode d ∷ []
of_turn (Derives c) = IsNode c ∷ []

-- what is said of what is kept
abbrev pub of_object_kept : ObjectKept → List Claim
of_object_kept (kept.Each turn items next) = AreNodes items.items ∷ of_turn turn
of_object_kept (kept.AfterClass o c) = IsNode o ∷ IsNode c ∷ []
of_object_kept (kept.AfterBases o c) = IsNode o ∷ IsNode c ∷ []
of_object_kept (kept.AfterOther c) = IsNode c ∷ []
of_object_kept (kept.AfterFirst d c) = IsNode d ∷ IsNode c ∷ []
of_object_kept (kept.AfterSecond d c) = IsNode d ∷ IsNode c ∷ []
of_object_kept (kept.AfterOwn c) = IsNode c ∷ []
of_object_kept _ = []

-- the group: the row of a task, and what is done with an answer
abbrev pub object_group : Group ObjectTask ObjectKept
object_group = record { row = λ t task w. object_job_say w (object_job task); stands = object_stands }

abbrev pub Begins : ObjectTask → World → World → Step ObjectKept → Type 0
Begins = points.Begins object_group

abbrev pub Resumes : ObjectKept → Result Answer Fault → World → World → Step ObjectKept → Type 0
Resumes = points.Resumes object_group
