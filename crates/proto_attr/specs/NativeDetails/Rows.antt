-- What the contracts say of the natives that tell a part of a property or of a member.
use Rattle.proto_attr.specs.Below.{List, [], Result, Raised as Fault, Answer, Task, Step, PlainWorld, Bindings, ToNative, Said, PyObjectRef, NativeEntry, World, Reading, task_of, Group, Follows, Claim, IsNode, Ended, Point, datum_at, read_objects}
use Rattle.std.specs.Prelude.{◌∷◌}
use Rattle.row_kit.specs.Points as points
use Rattle.proto_attr.specs.declared.native_details.DetailKept.{DetailKept}
use Rattle.proto_attr.specs.declared.native_details.DetailKept.TheVariants.{AfterGetter, AfterSetter, AfterBoth, AfterClass}
use Rattle.proto_attr.specs.NativeDetails.Say.{abstract_of, detail_job_say, joined, name_given, or_false, or_not_abstract, setter_at}

-- what is done with the answer where this is kept
abbrev pub detail_stands : Reading → DetailKept → Ended → Point
detail_stands t (AfterGetter m) r w = read_objects (setter_at (datum_at w m)) (λ ss. abstract_of w ss (λ s. joined w s (or_false r)))
detail_stands t (AfterSetter g) r w = joined w (or_false r) g
detail_stands t AfterBoth r w = or_not_abstract w r
detail_stands t (AfterClass m) r w = name_given w m r

-- what is said of what is kept
abbrev pub of_detail_kept : DetailKept → List Claim
of_detail_kept (AfterGetter m) = IsNode m ∷ []
of_detail_kept (AfterSetter g) = IsNode g ∷ []
of_detail_kept AfterBoth = []
of_detail_kept (AfterClass m) = IsNode m ∷ []

-- the group: the row of a task, and what is done with an answer
abbrev pub detail_group : Group Task DetailKept
detail_group = record { row = λ t task w. detail_job_say w (task_of t task); stands = detail_stands }

abbrev pub Begins : Task → World → World → Step DetailKept → Type 0
Begins = points.Begins detail_group

abbrev pub Resumes : DetailKept → Result Answer Fault → World → World → Step DetailKept → Type 0
Resumes = points.Resumes detail_group

-- a native does so, with these arguments
abbrev pub Does : NativeEntry → List PyObjectRef → (Reading → Bindings) → (Reading → PlainWorld → Said) → World → World → Step DetailKept → Type 0
Does n args kw said old new step = Follows detail_group (λ t w. detail_job_say w (ToNative n args (kw t))) said old new step
