-- One command after another.
use Rattle.vm_eval.proofs.Below.{ℕ, List, sym, ap, ◌∙◌, ExprRef, Tree, PlainReplyAnswer, Started, PlainWorld, DoEval, ToEval, Run, Out, answer, answering, replied, without_calls, World, Reading, Reads, plain, say, Answers, ending_of, Replied, before}
use Rattle.std.proofs.Common.{◌≡◌}
use Rattle.py_node.specs.declared.task.EvalTask.TheVariants as eval
use Rattle.py_node.specs.declared.task.Task.TheVariants as task
use Rattle.vm_eval.specs.declared.stack.End.{End}

-- a command's expression is stored, driven to its end, shown, and its starts are told
pub command-replied : (command : Tree) (expr : ExprRef) (units : ℕ) (old mid last new : World) (end : End) (told : PlainReplyAnswer) (calls : List Started)
    → ((t : Reading) → Reads t mid → t.tree expr.0 ≡ command) → ((t : Reading) → plain t mid ≡ plain t old) → ((t : Reading) → Reads t mid → Reads t old)
    → Answers (task.Eval (eval.Eval expr)) mid units last end
    → ((t : Reading) → told ≡ answering (plain t last) (ending_of end))
    → ((t : Reading) → calls ≡ (plain t last).calls) → ((t : Reading) → plain t new ≡ without_calls (plain t last)) → ((t : Reading) → Reads t new → Reads t last)
    → Replied command old units new (record { answer = told; calls = calls })
command-replied command expr units old mid last new end told calls spelled same reads answers shows notes rests back = λ t r.
    let a = answers t (back t r) in
    let here = sym (same t) in
    let tree = spelled t a.0 in
    (reads t a.0, λ go. go-on t go a.1 a.2 here tree)
  where
    go-on : (t : Reading) (go : PlainWorld → Run) (left : ℕ) → answer say (plain t mid) (ToEval (DoEval (t.tree expr.0))) units 0 ≡ Out (plain t last) (ending_of end) left → plain t old ≡ plain t mid → t.tree expr.0 ≡ command → replied go (answer say (plain t old) (ToEval (DoEval command)) units 0) ≡ before (record { answer = told; calls = calls }) (go (plain t new))
    go-on t go left e here tree =
        ap (λ w. replied go (answer say w (ToEval (DoEval command)) units 0)) here
        ∙ ap (λ x. replied go (answer say (plain t mid) (ToEval (DoEval x)) units 0)) (sym tree)
        ∙ ap (replied go) e
        ∙ ap (λ w. before (record { answer = answering (plain t last) (ending_of end); calls = (plain t last).calls }) (go w)) (sym (rests t))
        ∙ ap (λ x. before (record { answer = x; calls = (plain t last).calls }) (go (plain t new))) (sym (shows t))
        ∙ ap (λ x. before (record { answer = told; calls = x }) (go (plain t new))) (sym (notes t))
