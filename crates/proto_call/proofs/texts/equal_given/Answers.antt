use Rattle.proto_call.proofs.Lemmas.{◌∙◌, Ok, sym, ap, subst, Unequal}
use Rattle.proto_call.specs.Rows.{Resumes}
use Rattle.proto_call.proofs.texts.equal_given.Goals as goal

pub returns-in-Value-clause-goes : goal.returns-in-Value-clause-goes
returns-in-Value-clause-goes c =
    let w = c.args.world.now in
    let e = c.in-Ok.is ∙ ap (λ a. Ok a) c.in-Value.is in
    subst (λ r. Resumes Unequal r w w c.turned.result) (sym e) c.turned.ensures.goes
