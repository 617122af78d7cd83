use Rattle.proto_call.proofs.Lemmas.{Ok, rules, method-first, no-nodes}
use Rattle.std.proofs.Common.{◌≡◌}
use Rattle.py_node.specs.declared.task.Answer.TheVariants.{Method}
use Rattle.proto_call.proofs.eval_forms.call_form.loaded.Goals as goal

pub next_argument-requires-clause-values : goal.next_argument-requires-clause-values
next_argument-requires-clause-values c = rw c.new.ensures.items (no-nodes _)

pub returns-in-Ok-Method-clause-goes : goal.returns-in-Ok-Method-clause-goes
returns-in-Ok-Method-clause-goes c =
    let m = c.in-Ok-Method.method in
    let is : c.args.answer ≡ Ok (Method m) = search rules in
    method-first c.args.world.now c.args.e m c.new.result c.args.answer c.next_argument.result is c.new.ensures.items c.next_argument.ensures.goes
