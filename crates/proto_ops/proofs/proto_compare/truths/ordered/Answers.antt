use Rattle.proto_ops.proofs.Lemmas.{false, Ok, sym, subst, arith, Truth, Ask, Ordered, Equal, Resumes, asks-equal}
use Rattle.std.proofs.Common.{◌≡◌}
use Rattle.py_node.specs.declared.protocol.CompareTask.TheVariants as compare
use Rattle.py_node.specs.declared.task.Task.TheVariants as task
use Rattle.proto_ops.proofs.proto_compare.truths.ordered.Goals as goal

pub returns-in-Ok-Truth-false-clause-goes : goal.returns-in-Ok-Truth-false-clause-goes
returns-in-Ok-Truth-false-clause-goes c =
    let w = c.args.world.now in
    let a = c.args.a in
    let b = c.args.b in
    let is : c.args.answer ≡ Ok (Truth false) = grind arith in
    subst (λ s. Resumes (Ordered a b) s w w (Ask (task.Compare (compare.BoolEq a b)) Equal)) (sym is) (asks-equal w a b)
