use Rattle.proto_attr.proofs.Lemmas.{◌∙◌, ap, subst, sym, DoSuperInit, plain, Steps, descriptor_say, init_by, super_parts, descriptor_stands, parts_of}
use Rattle.std.proofs.Common.{◌≡◌}
use Rattle.proto_attr.proofs.proto_descr.super_init.super_init.Goals as goal

pub returns-clause-goes : goal.returns-clause-goes
unfolding descriptor_say
returns-clause-goes c = λ t q.
    let a = c.args in
    let u = plain t a.world.now in
    let next = c.in_ok-step-in-Ok.ensures.goes a.args.items t q in
    let parts = subst (λ xs. super_parts u xs ≡ parts_of c.parts.result) c.as_slice.ensures.value (c.parts.ensures.parts t) ∙ ap parts_of c.in-Ok.is in
    (next.0, subst (λ r. Steps (descriptor_stands t) t (λ v. descriptor_say v (DoSuperInit a.s a.args.items)) (init_by u a.s r) c.in_ok-step-in-Ok.step c.init_with.new.world) (sym parts) next.1)
