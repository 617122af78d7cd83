-- What the contracts of the rows of descriptors say.
use Rattle.proto_attr.specs.Below.{ℕ, Bool, cond, List, [], Result, Ok, Err, Option, Some, None, option_map, Raised as Fault, PyObjectRef, PyTypeRef, MethodDescriptor, Answer, DescriptorTask, Step, Ask, End, Datum, PlainWorld, DoSuperInit, DoGeneric, ToAttribute, Said, Asks, Ends, pass, value, is_text, ref, Text, known_text, PySuper, World, Reading, Reads, plain, descriptor_job, datum, task_of, ended_of, spelled, spelled_option, Group, Claim, IsClass, IsNode, of_payload, Ended, Follows, Point, class_number, datum_at, done, end, named_end, on_done, on_value, start}
use Rattle.std.specs.Prelude.{◌≡◌, ◌∷◌}
use Rattle.py_node.specs.declared.payload.Payload.TheVariants as payload
use Rattle.py_node.specs.declared.known.Known.TheVariants as known
use Rattle.row_kit.specs.Points as points
use Rattle.proto_attr.specs.declared.proto_descr.DescriptorKept.{DescriptorKept}
use Rattle.proto_attr.specs.declared.proto_descr.DescriptorKept.TheVariants.{Pass, AfterGet, Done, Binding, Starting, AfterClass}
use Rattle.proto_attr.specs.declared.proto_descr.super_get.BoundSuper.{BoundSuper}
use Rattle.proto_attr.specs.ProtoDescr.Say.{descriptor_say, bound_native, class_method_by}
use Rattle.proto_attr.specs.ProtoDescr.Supers.{Parts, after, found_after, looked_up, start_asked, super_bound, super_started, told_start}

-- a class and an object
abbrev pub Unbound : Type 0
Unbound = PyTypeRef × PyObjectRef

-- what is done with the answer where this is kept
abbrev pub descriptor_stands : Reading → DescriptorKept → Ended → Point
descriptor_stands t Pass r w = named_end w r
descriptor_stands t (AfterGet k f) r w = start (class_method_by w k f r) (named_end w)
descriptor_stands t Done r w = on_done w r (end w done)
descriptor_stands t (Binding c o) r w = start (super_bound w (ref c.0) o r) (named_end w)
descriptor_stands t (Starting s c o) r w = start (super_started w s (ref c.0) o r) (end w)
descriptor_stands t (AfterClass c) r w = on_value w r (λ k. end w (told_start w c.0 (class_number (datum_at w k))))

-- what is said of what is kept
abbrev pub of_descriptor_kept : DescriptorKept → List Claim
of_descriptor_kept Pass = []
of_descriptor_kept (AfterGet k f) = IsNode k ∷ IsNode f ∷ []
of_descriptor_kept Done = []
of_descriptor_kept (Binding c o) = IsClass c.0 ∷ IsNode o ∷ []
of_descriptor_kept (Starting s c o) = IsNode s ∷ IsClass c.0 ∷ IsNode o ∷ []
of_descriptor_kept (AfterClass c) = IsClass c.0 ∷ []

-- the group: the row of a task, and what is done with an answer
abbrev pub descriptor_group : Group DescriptorTask DescriptorKept
descriptor_group = record { row = λ t task w. descriptor_say w (descriptor_job t task); stands = descriptor_stands }

abbrev pub Begins : DescriptorTask → World → World → Step DescriptorKept → Type 0
Begins = points.Begins descriptor_group

abbrev pub Resumes : DescriptorKept → Result Answer Fault → World → World → Step DescriptorKept → Type 0
Resumes = points.Resumes descriptor_group

-- the first step of a task, which is said to be this
abbrev pub Starts : DescriptorTask → (Reading → PlainWorld → Said) → World → World → Step DescriptorKept → Type 0
Starts = points.Starts descriptor_group

-- the row ends so in a world
abbrev pub EndsSo : Said → Result Answer Fault → PlainWorld → Type 0
EndsSo (Asks w learnt task) s new = ⊥
EndsSo (Ends w r) s new = (ended_of s ≡ r) × (new ≡ w)

-- a row is said to end, and ends so, however the numbers are read
abbrev pub EndsSaid : (Reading → PlainWorld → Said) → World → World → Result Answer Fault → Type 0
EndsSaid said old new r = (t : Reading) → Reads t new → Reads t old × EndsSo (said t (plain t old)) r (plain t new)

-- a step that keeps nothing asks a task and ends as that does, or ends
abbrev pub step_said : Reading → World → Step Unit → Said
step_said t new (Ask asked kept) = Asks (plain t new) [] (task_of t asked)
step_said t new (End r) = Ends (plain t new) (ended_of r)

-- the step is what is said, however the numbers are read
abbrev pub StepsAs : (Reading → PlainWorld → Said) → World → World → Step Unit → Type 0
StepsAs said old new step = (t : Reading) → Reads t new → Reads t old × (said t (plain t old) ≡ step_said t new step)

abbrev pub nothing_held : Unit {0} → List Claim
nothing_held kept = []

-- such a step among those of descriptors
abbrev pub passed : Step Unit → Step DescriptorKept
passed (Ask asked kept) = Ask asked Pass
passed (End r) = End r

-- a step after which all is done, whatever it asked gave
abbrev pub closed : Step Unit → Step DescriptorKept
closed (Ask asked kept) = Ask asked Done
closed (End r) = End r

-- what a `super` does that is to be bound to this object, if there is one
abbrev pub super_asked : PlainWorld → Option Unbound → PyObjectRef → Said
super_asked w None m = Ends w (value m)
super_asked w (Some p) m = start_asked w m p.0.0 p.1

-- what is said of a class and an object
abbrev pub of_parts : Unbound → List Claim
of_parts p = IsClass p.0.0 ∷ IsNode p.1 ∷ []

-- these in the plain world, or why there are none
abbrev pub parts_of : Result Unbound Fault → Parts
parts_of (Ok p) = Ok (p.0.0, p.1)
parts_of (Err x) = Err x

-- the object that a `super` is bound to, with the class from which it starts
abbrev pub bound_to : PySuper → Option (PyObjectRef × ℕ)
bound_to p = option_map (λ b. (b.0, b.1.0)) p.obj

-- what gives an attribute of a `super` that is bound so
abbrev pub bound_attribute : PlainWorld → Option BoundSuper → PyObjectRef → Text → Said
bound_attribute w None s x = pass w (ToAttribute (DoGeneric s x))
bound_attribute w (Some p) s x =
    cond (is_text x (known_text known.Class)) (pass w (ToAttribute (DoGeneric s x)))
    (looked_up w s x p.object p.start.0 (found_after w p.start.0 p.class.0 x))

abbrev pub of_bound : BoundSuper → List Claim
of_bound p = IsClass p.class.0 ∷ IsNode p.object ∷ IsClass p.start.0 ∷ []

-- the classes that follow: all that are left, or those after one
abbrev pub remaining : Bool → ℕ → List ℕ → List ℕ
remaining past c cs = cond past cs (after c cs)

-- a `super` is initialised so, whatever it was given
abbrev pub Initialises : PyObjectRef → (PlainWorld → Said) → World → World → Step DescriptorKept → Type 0
Initialises s said old new step =
    (args : List PyObjectRef) → Follows descriptor_group (λ t w. descriptor_say w (DoSuperInit s args)) (λ t w. said w) old new step

-- a class by its number
abbrev pub number : Option PyTypeRef → Option ℕ
number c = option_map (λ k. k.0) c

-- what a native as a method holds, if it is one
abbrev pub described : Reading → Option MethodDescriptor → Option Datum
described t None = None
described t (Some m) = Some (datum t (payload.MethodDescriptor m))

abbrev pub native_of : MethodDescriptor → List Claim
native_of m = of_payload (payload.MethodDescriptor m)

-- it is bound to an object
abbrev pub bound_as : Reading → PlainWorld → MethodDescriptor → PyObjectRef → Said
bound_as t w m o = bound_native w m.class.0 (spelled t m.name) m.entry (spelled_option t m.doc) o
