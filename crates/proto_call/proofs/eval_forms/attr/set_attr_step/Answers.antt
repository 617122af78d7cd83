use Rattle.proto_call.proofs.Lemmas.{sym, ◌∙◌, two-hold}
use Rattle.proto_call.proofs.eval_forms.attr.set_attr_step.Goals as goal

pub returns-in-Some-clause-safe : goal.returns-in-Some-clause-safe
returns-in-Some-clause-safe c = λ w n h.
    let both = two-hold w c.args.values.now c.in-Some.target c.in-Some.value h (sym c.two_of.ensures ∙ c.in-Some.is) in
    (both.0, (n, (both.1, tt)))
