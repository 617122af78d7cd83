-- Words some of whose operands stand for numbers.
use Rattle.proto_call.proofs.Below.{[], Ok, refl, sym, ◌∙◌, PyObjectRef, Raised as Fault, Answer, Value, Ask, End, Task, PlainWorld, Answered, DoIndex, ToProtocol, Told, Said, Ends, start, pass, value, Reading, plain, task_of, ended_of, World, EvalKept, Made, Stop, Outcome, Part, made, with_index, Resumes, eval_group, eval_stands, asks-follow, ends-follow}
use Rattle.std.proofs.Common.{◌≡◌, ◌∷◌, Result}
use Rattle.py_node.specs.declared.protocol.ProtocolTask.TheVariants as protocol
use Rattle.py_node.specs.declared.task.Task.TheVariants as task
use Rattle.proto_call.specs.declared.eval_forms.EvalKept.TheVariants.{Start}

-- from what is kept, a task is asked with the numbers, and this is made of its answer
pub asks-then : (k : EvalKept) (s : Result Answer Fault) (w : World) (asked : Task) (o : Outcome) (said : Reading → PlainWorld → Said)
    → ((t : Reading) (u : PlainWorld) (more : Told) → start (said t u) (made u o) more ≡ eval_stands t k (ended_of s) u more) → ((t : Reading) → said t (plain t w) ≡ pass (plain t w) (task_of t asked))
    → Resumes k s w w (Ask asked (Made o))
asks-then k s w asked o said stands asks =
    let row = λ (t : Reading). eval_stands t k (ended_of s) in
    asks-follow eval_group row (λ t u. row t u []) w w [] asked (Made o) (λ t q. (q, sym (stands t (plain t w) []) ∙ asks t)) (λ t u r more. sym (stands t u (Answered r ∷ more)))

-- where the first place is a number, the second one is asked
pub asks-stop : (w : World) (p : Part) (o j i : PyObjectRef) → ((t : Reading) → with_index (plain t w) (value i) (λ a. pass (plain t w) (ToProtocol (DoIndex j))) ≡ pass (plain t w) (ToProtocol (DoIndex j)))
    → Resumes (Start p o j) (Ok (Value i)) w w (Ask (task.Protocol (protocol.Index j)) (Stop p o i))
asks-stop w p o j i given =
    let row = λ (t : Reading). eval_stands t (Start p o j) (value i) in
    asks-follow eval_group row (λ t u. row t u []) w w [] (task.Protocol (protocol.Index j)) (Stop p o i) (λ t q. (q, given t)) (λ t u r more. refl)

-- and where it is none, this ends it
pub ends-start : (w : World) (p : Part) (o j i : PyObjectRef) (r : Result Answer Fault) → ((t : Reading) → with_index (plain t w) (value i) (λ a. pass (plain t w) (ToProtocol (DoIndex j))) ≡ Ends (plain t w) (ended_of r))
    → Resumes (Start p o j) (Ok (Value i)) w w (End r)
ends-start w p o j i r refused =
    let row = λ (t : Reading). eval_stands t (Start p o j) (value i) in
    ends-follow eval_group row (λ t u. row t u []) w w r (λ t q. (q, refused t))
