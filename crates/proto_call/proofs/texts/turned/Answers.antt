use Rattle.proto_call.proofs.Lemmas.{[], refl, sym, ◌∙◌, Answered, plain, call_job_say, turned-asks}
use Rattle.std.proofs.Common.{◌∷◌}
use Rattle.proto_call.proofs.texts.turned.Goals as goal

pub returns-else-is_not_implemented-clause-goes : goal.returns-else-is_not_implemented-clause-goes
unfolding call_job_say
returns-else-is_not_implemented-clause-goes c = λ t r.
    let a = c.args in
    let e = sym c.is_not_implemented.ensures ∙ c.if-is_not_implemented.false in
    (r, rw (turned-asks (plain t a.world.now) a.x [] e) (refl, refl, λ u q more. turned-asks u a.x (Answered q ∷ more) e))
