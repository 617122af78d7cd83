-- What the contracts of repetitions by name say.
use Rattle.proto_ops.specs.Below.{List, [], Result, PyObjectRef, PyStrInterned, Raised as Fault, NativeEntry, OfList, Answer, Task, Step, ToNative, Ended, World, Reading, bindings, task_of, as_said, on_count, Group, Point, Claim, AreNodes, Holding, IsNode}
use Rattle.std.specs.Prelude.{◌∷◌}
use Rattle.py_node.specs.declared.built_in.BuiltIn.TheVariants as built_in
use Rattle.row_kit.specs.Points as points
use Rattle.proto_ops.specs.declared.native_repeats.RepeatKept.{RepeatKept}
use Rattle.proto_ops.specs.NativeRepeats.Say.{entry_of, repeat_job_say, repeat_stood}

-- what is done with the answer where this is kept
abbrev pub repeat_stands : Reading → RepeatKept → Ended → Point
repeat_stands t k r w = on_count w r (λ z. as_said (repeat_stood w (entry_of k.kind) k.object k.items.items z))

-- what a native changes in place is a list
abbrev pub of_place : NativeEntry → PyObjectRef → List Claim
of_place (OfList n) o = Holding o built_in.List ∷ []
of_place n o = []

-- what is said of what is kept
abbrev pub of_repeat_kept : RepeatKept → List Claim
of_repeat_kept k = IsNode k.object ∷ (AreNodes k.items.items ∷ [])

-- the group: the row of a task, and what is done with an answer
abbrev pub repeat_group : Group Task RepeatKept
repeat_group = record { row = λ t task w. repeat_job_say w (task_of t task); stands = repeat_stands }

abbrev pub Begins : Task → World → World → Step RepeatKept → Type 0
Begins = points.Begins repeat_group

abbrev pub Resumes : RepeatKept → Result Answer Fault → World → World → Step RepeatKept → Type 0
Resumes = points.Resumes repeat_group

-- the first step of a native, with these arguments
abbrev pub Enters : NativeEntry → List PyObjectRef → List (PyStrInterned × PyObjectRef) → World → Step RepeatKept → Type 0
Enters n args kw w step = points.Goes repeat_group (λ t u. repeat_job_say u (ToNative n args (bindings t kw))) w w step
