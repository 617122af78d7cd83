use Rattle.proto_call.proofs.Lemmas.{Some, refl, sym, ◌∙◌, two-hold, two_of}
use Rattle.std.proofs.Common.{◌≡◌}
use Rattle.proto_call.proofs.eval_forms.bounds.counted_step.Goals as goal

pub returns-in-Some-clause-goes : goal.returns-in-Some-clause-goes
returns-in-Some-clause-goes c = λ w t r.
    let two : two_of c.args.values.now ≡ Some (c.in-Some.object, c.in-Some.count) = sym c.two_of.ensures ∙ c.in-Some.is in
    rw (two, c.index_of.ensures) (r, (refl, refl, λ u s more. refl))

pub returns-in-Some-clause-safe : goal.returns-in-Some-clause-safe
returns-in-Some-clause-safe c = λ w h.
    let both = two-hold w c.args.values.now c.in-Some.object c.in-Some.count h (sym c.two_of.ensures ∙ c.in-Some.is) in
    rw c.index_of.ensures (both.1, (both.0, tt))
