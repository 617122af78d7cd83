use Rattle.proto_attr.proofs.Lemmas.{Some, sym, ap, ◌∙◌, known_text, SetOwn, Ends, fault, plain, changes, refused}
use Rattle.proto_attr.proofs.native_objects.class_setters.set_own.Goals as goal

pub returns-in-Err-Refused-clause-ends : goal.returns-in-Err-Refused-clause-ends
returns-in-Err-Refused-clause-ends c = rw c.raise.ensures (λ t q.
    let e = c.in-Err-Refused.ensures in
    let u = plain t c.args.world.now in
    let k = c.args.class.0 in
    let cause = c.in-Err-Refused.cause in
    let told = rw c.in-Err-Refused.field-0-is at c.in-Err-Refused.ensures.refused in
    (e.reads t q, refused u k (changes u (SetOwn k (known_text c.args.name) (Some c.args.value))) cause (told t) ∙ ap (λ v. Ends (plain t v) (fault cause)) (sym e.err)))
