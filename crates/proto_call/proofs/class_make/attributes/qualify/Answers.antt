use Rattle.proto_call.proofs.Lemmas.{refl, string_bytes, place_of, plain, bindings, qualified}
use Rattle.proto_call.proofs.class_make.attributes.qualify.Goals as goal

pub returns-clause-becomes : goal.returns-clause-becomes
unfolding place_of
returns-clause-becomes c = λ t r.
    let u = plain t c.args.world.now in
    let q = c.in_ok-more.ensures.reads t r in
    qualified t (plain t c.give.new.world, bindings t c.in_ok-more.more) u u c.args.attrs c.known-qualname.result
    c.built_in-class.result.0 c.args.name.now (string_bytes c.in_ok-text.text) (c.in_ok-more.ensures.becomes t r) refl
    (c.known-qualname.ensures.spelled t q) c.built_in-class.ensures.place c.in_ok-text.ensures.ok
