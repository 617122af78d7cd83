use Rattle.proto_call.proofs.Lemmas.{refl, known_text, plain, bindings, grows-itself, wrapped, value-there}
use Rattle.proto_call.proofs.class_make.attributes.wrap.Goals as goal

pub wrap_value-requires-clause-value : goal.wrap_value-requires-clause-value
wrap_value-requires-clause-value c =
    let w = c.args.world.now in
    value-there w w c.args.attrs c.known-key.result c.get-value.result (grows-itself w) c.requires c.get-value.ensures

pub returns-clause-becomes : goal.returns-clause-becomes
returns-clause-becomes c = λ t r.
    let u = plain t c.args.world.now in
    let q = c.in_ok-more.ensures.reads t r in
    wrapped t (plain t c.wrap_value.new.world, bindings t c.in_ok-more.more) u u c.args.attrs c.known-key.result
    (known_text c.args.name) c.get-value.result (c.in_ok-more.ensures.becomes t r) refl (c.known-key.ensures.spelled t q)
    c.get-value.ensures
