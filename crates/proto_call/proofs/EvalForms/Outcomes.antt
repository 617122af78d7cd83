-- What is made of an answer.
use Rattle.proto_call.proofs.Below.{[], Option, Some, None, Ok, Err, refl, Result, IfOk, OutOfMemory, Raised as Fault, Answer, Step, Ask, End, Task, PlainTask, Reading, task_of, ended_of, World, EvalKept, Made, Outcome, asked, made, EndsRow, Goes, Resumes, eval_group, eval_stands, ends-follow}
use Rattle.std.proofs.Common.{◌≡◌}

-- a word's task is asked, and this is made of its answer
pub asks-made : (w : World) (o : Outcome) (task : Task) (said : Option PlainTask) → ((t : Reading) → Some (task_of t task) ≡ said) → Goes (λ t u. asked u o said) w w (Ask task (Made o))
asks-made w o task None h = λ t r. let e : Some (task_of t task) ≡ None = h t in absurd cc
asks-made w o task (Some other) h = λ t r. let e : Some (task_of t task) ≡ Some other = h t in (r, (cc, refl, λ u s more. refl))

-- and it is made so
made-resumes : (o : Outcome) (s : Result Answer Fault) (old new : World) (step : Step EvalKept) → EndsRow (λ t u. made u o (ended_of s)) old new step → Resumes (Made o) s old new step
made-resumes o s old new (Ask asked kept) k = absurd k
made-resumes o s old new (End r) k = ends-follow eval_group (λ t. eval_stands t (Made o) (ended_of s)) (λ t u. made u o (ended_of s) []) old new r k

pub all-made : (o : Outcome) (s : Result Answer Fault) (old new : World) (r : Result (Step EvalKept) OutOfMemory) → IfOk r (λ step. EndsRow (λ t u. made u o (ended_of s)) old new step) → IfOk r (λ step. Resumes (Made o) s old new step)
all-made o s old new (Ok step) k = made-resumes o s old new step k
all-made o s old new (Err out) k = tt
