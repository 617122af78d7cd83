use Rattle.proto_call.proofs.Lemmas.{sym, subst, ◌∙◌, by_manner, manner_of, Goes}
use Rattle.std.proofs.Common.{◌≡◌}
use Rattle.proto_call.specs.declared.eval_forms.manner.Manner.TheVariants.{Asks}
use Rattle.proto_call.proofs.eval_forms.words.op_step.Goals as goal

pub returns-in-Asks-clause-goes : goal.returns-in-Asks-clause-goes
returns-in-Asks-clause-goes c =
    let w = c.args.world.now in
    let is : manner_of c.args.word ≡ Asks c.in-Asks.outcome = sym c.manner_of.ensures ∙ c.in-Asks.is in
    subst (λ m. Goes (λ t u. by_manner u m c.args.word c.args.values.now) w w c.ask_for-step.result) (sym is) c.ask_for-step.ensures.goes
