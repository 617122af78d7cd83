-- What the contracts of natives say that may ask a task.
use Rattle.proto_attr.specs.Below.{List, [], Result, Ok, Err, Option, Some, None, PyObjectRef, Raised as Fault, Get, known_text, NativeEntry, Answer, Value, Task, Step, Ask, End, PlainWorld, Bindings, DoGetAttr, ToAttribute, ToNative, ReadObjects, Said, Asks, Ends, ref, value, none, World, Reading, task_of, Group, Follows, Claim, IsClass, IsNode, IsOf, Ended, Point, end, named_end, on_done, start}
use Rattle.std.specs.Prelude.{◌∷◌}
use Rattle.row_kit.specs.Points as points
use Rattle.proto_attr.specs.declared.native_calls.NativeKept.{NativeKept}
use Rattle.proto_attr.specs.declared.native_calls.NativeKept.TheVariants.{Pass, AfterGet, AfterDoc, AfterSet, Answering, Binding, Marked}
use Rattle.proto_attr.specs.NativeCalls.Parts.{or_not_abstract}
use Rattle.proto_attr.specs.NativeCalls.Say.{asking_job_say, class_of_wrapper, none_end, wrapper_rest}
use Rattle.proto_attr.specs.ProtoDescr.Say.{class_method_by}
use Rattle.proto_attr.specs.ProtoDescr.Supers.{super_bound}

-- what is asked for a class method that wraps this, if it is one
abbrev pub class_asked : PlainWorld → Option PyObjectRef → PyObjectRef → PyObjectRef → Said
class_asked w None m k = Ends w (value m)
class_asked w (Some f) m k = Asks w (ReadObjects (k ∷ f ∷ []) ∷ []) (ToAttribute (DoGetAttr f (known_text Get)))

-- what is done with the answer where this is kept
abbrev pub asking_stands : Reading → NativeKept → Ended → Point
asking_stands t Pass r w = named_end w r
asking_stands t (AfterGet k f) r w = start (class_method_by w k f r) (named_end w)
asking_stands t (AfterDoc b c f) r w = wrapper_rest w b c.0 f r
asking_stands t (AfterSet new) r w = on_done w r (end w (value new))
asking_stands t Answering r w = none_end w r
asking_stands t (Binding c o) r w = start (super_bound w (ref c.0) o r) (named_end w)
asking_stands t Marked r w = or_not_abstract w r

-- what is said of what is kept
abbrev pub of_native_kept : NativeKept → List Claim
of_native_kept Pass = []
of_native_kept (AfterGet k f) = IsNode k ∷ IsNode f ∷ []
of_native_kept (AfterDoc b c f) = IsClass c.0 ∷ IsOf c.0 (class_of_wrapper b) ∷ IsNode f ∷ []
of_native_kept (AfterSet new) = IsNode new ∷ []
of_native_kept Answering = []
of_native_kept Marked = []
of_native_kept (Binding c o) = IsClass c.0 ∷ IsNode o ∷ []

-- the group: the row of a task, and what is done with an answer
abbrev pub native_group : Group Task NativeKept
native_group = record { row = λ t task w. asking_job_say w (task_of t task); stands = asking_stands }

abbrev pub Begins : Task → World → World → Step NativeKept → Type 0
Begins = points.Begins native_group

abbrev pub Resumes : NativeKept → Result Answer Fault → World → World → Step NativeKept → Type 0
Resumes = points.Resumes native_group

-- a native does so, whatever its arguments are
abbrev pub Does : NativeEntry → (Reading → PlainWorld → Said) → World → World → Step NativeKept → Type 0
Does n said old new step =
    (args : List PyObjectRef) (kw : Reading → Bindings) → Follows native_group (λ t w. asking_job_say w (ToNative n args (kw t))) said old new step

-- a step that keeps nothing, among those of natives
abbrev pub passed : Step (Unit {0}) → Step NativeKept
passed (Ask asked kept) = Ask asked Pass
passed (End r) = End r

-- the same, where it answers None, whatever it asked gave
abbrev pub answering : Step (Unit {0}) → Step NativeKept
answering (Ask asked kept) = Ask asked Answering
answering (End (Ok a)) = End (Ok (Value none))
answering (End (Err x)) = End (Err x)

-- the same, where what can't tell whether it is abstract is not
abbrev pub marking : Step (Unit {0}) → Step NativeKept
marking (Ask asked kept) = Ask asked Marked
marking (End r) = End r
