-- What the contracts of the rows of the creation of classes say.
use Rattle.proto_call.specs.Below.{ℕ, List, [], drop, Result, Ok, Raised as Fault, PyObjectRef, PyStrInterned, TypeNative, TypeType, Answer, Value, ClassTask, Step, Text, PlainWorld, DoMakeClass, DoType, DoCall, ToCall, Ended, Said, start, pass, end, native_end, on_done, on_value, value, ref, World, Reading, Reads, bindings, class_job, plain, spelled, Group, Follows, Point, Claim, IsClass, IsName, IsNode, Holding, of_binding, of_each}
use Rattle.std.specs.Prelude.{◌≡◌, ◌∷◌, ◌++◌}
use Rattle.row_kit.specs.Points as points
use Rattle.proto_call.specs.declared.class_make.ClassKept.{ClassKept}
use Rattle.proto_call.specs.declared.class_make.ClassKept.TheVariants.{Pass, Native, NoClass, Binding, Calling, AfterBind, AfterHook}
use Rattle.proto_call.specs.declared.class_make.tell.Telling.{Telling}
use Rattle.proto_call.specs.ClassMake.Say.{Space, bind_hooks, call_hooks, class_job_say, init_subclass, no_class, unless_raised, without_metaclass}

-- names with values, by the names' numbers
abbrev pub Bound : Type 0
Bound = List (PyStrInterned × PyObjectRef)

-- the names with values that are not told yet
abbrev pub left : Telling → Bound
left telling = drop telling.next telling.values.items

-- the row that binds the hooks of some values, where these are bound already
abbrev pub bind_row : PyObjectRef → Bound → Bound → Bound → Reading → Point
bind_row class kw hooks vs t u =
    bind_hooks u (bindings t vs) (λ bs. call_hooks u class (bindings t hooks ++ bs) (init_subclass u class (bindings t kw)))

-- the row that calls bound hooks
abbrev pub call_row : PyObjectRef → Bound → Bound → Reading → Point
call_row class kw hooks t u = call_hooks u class (bindings t hooks) (init_subclass u class (bindings t kw))

-- the same, where one more is bound
abbrev pub bind_row_with : PyObjectRef → Bound → Bound → Text × PyObjectRef → Bound → Reading → Point
bind_row_with class kw hooks b vs t u =
    bind_hooks u (bindings t vs) (λ bs. call_hooks u class (bindings t hooks ++ b ∷ bs) (init_subclass u class (bindings t kw)))

-- what is done with the answer where this is kept
abbrev pub class_stands : Reading → ClassKept → Ended → Point
class_stands t Pass r w = end w r
class_stands t Native r w = native_end w r
class_stands t NoClass r w = no_class w r
class_stands t (Binding telling hooks x) r w = on_value w r (λ b. bind_row_with (ref telling.class.0) telling.kw.items hooks.items (spelled t x, b) (left telling) t w)
class_stands t (Calling telling) r w = unless_raised w r (call_row (ref telling.class.0) telling.kw.items (left telling) t w)
class_stands t (AfterBind class kw) r w = on_value w r (λ b. start (pass w (ToCall (DoCall b [] (without_metaclass (bindings t kw.items))))) (λ s. on_done w s (end w (value class))))
class_stands t (AfterHook class) r w = on_done w r (end w (value class))

abbrev pub of_telling : Telling → List Claim
of_telling telling = IsClass telling.class.0 ∷ of_each of_binding telling.kw.items ++ of_each of_binding telling.values.items

-- what is said of what is kept
abbrev pub of_class_kept : ClassKept → List Claim
of_class_kept Pass = []
of_class_kept Native = []
of_class_kept NoClass = []
of_class_kept (Binding telling hooks x) = IsName x ∷ of_telling telling ++ of_each of_binding hooks.items
of_class_kept (Calling telling) = of_telling telling
of_class_kept (AfterBind class kw) = IsNode class ∷ of_each of_binding kw.items
of_class_kept (AfterHook class) = IsNode class ∷ []

-- the object stands for a class
abbrev pub of_class_node : PyObjectRef → List Claim
of_class_node r = Holding r TypeType ∷ []

-- the group: the row of a task, and what is done with an answer
abbrev pub class_group : Group ClassTask ClassKept
class_group = record { row = λ t task w. class_job_say w (class_job t task); stands = class_stands }

-- the step from a point of a row
abbrev pub Goes : (Reading → Point) → World → World → Step ClassKept → Type 0
Goes = points.Goes class_group

abbrev pub Begins : ClassTask → World → World → Step ClassKept → Type 0
Begins = points.Begins class_group

abbrev pub Resumes : ClassKept → Result Answer Fault → World → World → Step ClassKept → Type 0
Resumes = points.Resumes class_group

-- an answer that is no object
abbrev pub IsOther : Result Answer Fault → Type 0
IsOther (Ok (Value r)) = ⊥
IsOther _ = Unit {0}

-- the step that is said to follow in the making of a class with these keywords, whatever its metaclass and its arguments are
abbrev pub Makes : Bound → (Reading → PlainWorld → Said) → World → World → Step ClassKept → Type 0
Makes kw said old new step =
    (meta : ℕ) (args : List PyObjectRef) → Follows class_group (λ t u. class_job_say u (DoMakeClass meta args (bindings t kw))) said old new step

-- the step that is said to follow at a native of `type`
abbrev pub Types : (Reading → PlainWorld → Said) → World → World → Step ClassKept → Type 0
Types said old new step =
    (n : TypeNative) (args : List PyObjectRef) (kw : Bound) → Follows class_group (λ t u. class_job_say u (DoType n args (bindings t kw))) said old new step

-- the attributes after a change of them and of the world
abbrev pub Becomes : (Reading → Space → Space) → World → Bound → World → Bound → Type 0
Becomes change old attrs new more = (t : Reading) → Reads t new → ◌≡◌ {A = Space} (plain t new, bindings t more) (change t (plain t old, bindings t attrs))
