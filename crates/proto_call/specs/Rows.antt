-- What the contracts of the rows of calls say.
use Rattle.proto_call.specs.Below.{ℕ, not, List, [], Result, IfOk, OutOfMemory, ObjectNative, PyObjectRef, Raised as Fault, Answer, CallTask, Step, PlainWorld, DoObject, Bindings, Ended, Said, start, end, named_end, native_end, on_done, on_truth, on_value, truth, value, without_scope, World, Reading, bindings, call_job, Group, Follows, Point, Held, Claim, IsNode, IsClass, AllHold, Grows, of_args, of_step, left_open}
use Rattle.std.specs.Prelude.{◌≡◌, ◌∷◌}
use Rattle.row_kit.specs.Points as points
use Rattle.proto_call.specs.declared.CallKept.{CallKept}
use Rattle.proto_call.specs.declared.CallKept.TheVariants.{Pass, Named, Native, Unequal, Turned, Scope, AfterNew, AfterInit, AfterSpecialInit}
use Rattle.proto_call.specs.Say.{call_job_say, init_rest, initialised, turned}

-- what is done with the answer where this is kept
abbrev pub call_stands : Reading → CallKept → Ended → Point
call_stands t Pass r w = end w r
call_stands t Named r w = named_end w r
call_stands t Native r w = native_end w r
call_stands t Unequal r w = on_value w r (turned w)
call_stands t Turned r w = on_truth w r (λ b. end w (value (truth (not b))))
call_stands t Scope r w = end (without_scope w) r
call_stands t (AfterNew c args kw) r w = on_value w r (λ o. start (initialised w c.0 args.items (bindings t kw.items) o) (λ s. on_done w s (end w (value o))))
call_stands t (AfterInit o) r w = on_done w r (end w (value o))
call_stands t AfterSpecialInit r w = init_rest w 1 r

-- what is said of what is kept
abbrev pub of_call_kept : CallKept → List Claim
of_call_kept Pass = []
of_call_kept Named = []
of_call_kept Native = []
of_call_kept Unequal = []
of_call_kept Turned = []
of_call_kept Scope = []
of_call_kept (AfterNew c args kw) = IsClass c.0 ∷ of_args args.items kw.items
of_call_kept (AfterInit o) = IsNode o ∷ []
of_call_kept AfterSpecialInit = []

-- how many bodies are open in what is kept
abbrev pub bodies_of : CallKept → ℕ
bodies_of Scope = 1
bodies_of _ = 0

-- a step that opens no body: all that it says is so
abbrev pub OpensNone : Held → Step CallKept → Type 0
OpensNone w step = AllHold w (of_step of_call_kept step) × (left_open bodies_of step ≡ 0)

-- what a row leaves that begins and ends no body
abbrev pub LeavesNone : Held → Held → Result (Step CallKept) OutOfMemory → Type 0
LeavesNone old new result = Grows old new × IfOk result (λ step. OpensNone new step)

-- the group: the row of a task, and what is done with an answer
abbrev pub call_group : Group CallTask CallKept
call_group = record { row = λ t task w. call_job_say w (call_job t task); stands = call_stands }

abbrev pub Begins : CallTask → World → World → Step CallKept → Type 0
Begins = points.Begins call_group

abbrev pub Resumes : CallKept → Result Answer Fault → World → World → Step CallKept → Type 0
Resumes = points.Resumes call_group

-- the first step of a task, which is said to be this
abbrev pub Starts : CallTask → (Reading → PlainWorld → Said) → World → World → Step CallKept → Type 0
Starts = points.Starts call_group

-- the step at an answer, which is said to be this
abbrev pub Continues : CallKept → Result Answer Fault → (Reading → PlainWorld → Said) → World → World → Step CallKept → Type 0
Continues = points.Continues call_group

-- any row of the group ends as is said
abbrev pub Closes : (Reading → PlainWorld → Said) → World → World → Step CallKept → Type 0
Closes said old new step = (row : Reading → Point) → Follows call_group row said old new step

-- a native of `object` does so, whatever its arguments are
abbrev pub Does : ObjectNative → (Reading → PlainWorld → Said) → World → World → Step CallKept → Type 0
Does n said old new step =
    (args : List PyObjectRef) (kw : Reading → Bindings) → Follows call_group (λ t u. call_job_say u (DoObject n args (kw t))) said old new step
