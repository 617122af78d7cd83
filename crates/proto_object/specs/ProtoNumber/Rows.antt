-- What the contracts of the rows of numbers, truth values and lengths say.
use Rattle.proto_object.specs.Below.{List, [], Result, Raised as Fault, IndexReturn, Answer, ProtocolTask, Step, PlainWorld, DoCall, ToCall, Said, Ended, ask, end, fault, on_value, World, Reading, protocol_job, Group, Point, Claim, IsNode}
use Rattle.std.specs.Prelude.{◌∷◌}
use Rattle.row_kit.specs.Points as points
use Rattle.proto_object.specs.declared.proto_number.NumberKept.{NumberKept}
use Rattle.proto_object.specs.declared.proto_number.NumberKept.TheVariants.{Pass, AfterBool, AfterLength, AfterIndex, AfterInt, AfterTruncate, AfterIndexOf, AfterLen, Measured, Expected, Called}
use Rattle.proto_object.specs.ProtoNumber.Lengths.{expected_given, hint_rest, length_rest}
use Rattle.proto_object.specs.ProtoNumber.Numbers.{number_given, truncated, whole_rest}
use Rattle.proto_object.specs.ProtoNumber.Say.{number_job_say}
use Rattle.proto_object.specs.ProtoNumber.Truth.{truth_rest}

-- what is done with the answer where this is kept
abbrev pub number_stands : Reading → NumberKept → Ended → Point
number_stands t Pass r w = end w r
number_stands t AfterBool r w = truth_rest w 0 r
number_stands t AfterLength r w = truth_rest w 1 r
number_stands t AfterIndex r w = number_given w (fault IndexReturn) r
number_stands t AfterInt r w = whole_rest w 0 r
number_stands t AfterTruncate r w = whole_rest w 2 r
number_stands t AfterIndexOf r w = truncated w r
number_stands t AfterLen r w = length_rest w 1 r
number_stands t (Measured o d) r w = hint_rest w o d r
number_stands t (Expected d) r w = on_value w r (λ b. ask w (ToCall (DoCall b [] [])) (expected_given w d))
number_stands t (Called d) r w = expected_given w d r

-- what is said of what is kept
abbrev pub of_number_kept : NumberKept → List Claim
of_number_kept (Measured o d) = IsNode o ∷ []
of_number_kept _ = []

-- the group: the row of a task, and what is done with an answer
abbrev pub number_group : Group ProtocolTask NumberKept
number_group = record { row = λ t task w. number_job_say w (protocol_job task); stands = number_stands }

abbrev pub Begins : ProtocolTask → World → World → Step NumberKept → Type 0
Begins = points.Begins number_group

abbrev pub Resumes : NumberKept → Result Answer Fault → World → World → Step NumberKept → Type 0
Resumes = points.Resumes number_group

-- the first step of a task, which is said to be this
abbrev pub Starts : ProtocolTask → (Reading → PlainWorld → Said) → World → World → Step NumberKept → Type 0
Starts = points.Starts number_group
