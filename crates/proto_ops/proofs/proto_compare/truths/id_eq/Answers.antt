use Rattle.proto_ops.proofs.Lemmas.{[], false, arith, eqb, Answered, plain, compare_group, others-ask, asks-follow}
use Rattle.std.proofs.Common.{◌≡◌, ◌∷◌}
use Rattle.proto_ops.specs.Below.{Reading}
use Rattle.py_node.specs.declared.protocol.CompareTask.TheVariants as compare
use Rattle.py_node.specs.declared.task.Task.TheVariants as task
use Rattle.proto_ops.specs.declared.proto_compare.CompareKept.TheVariants.{Pass}
use Rattle.proto_ops.proofs.proto_compare.truths.id_eq.Goals as goal

pub returns-else-a-b-clause-goes : goal.returns-else-a-b-clause-goes
returns-else-a-b-clause-goes c = λ w.
    let a = c.args.a in
    let b = c.args.b in
    let e : eqb a.0 b.0 ≡ false = grind arith in
    let row = λ (t : Reading). compare_group.row t (compare.IdEq a b) in
    asks-follow compare_group row (λ t u. row t u []) w w [] (task.Compare (compare.BoolEq a b)) Pass (λ t q. (q, others-ask (plain t w) a b [] e)) (λ t u s more. others-ask u a b (Answered s ∷ more) e)
