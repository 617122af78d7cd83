use Rattle.proto_call.proofs.Lemmas.{refl, place_of, plain, bindings, dict-given}
use Rattle.proto_call.proofs.class_make.attributes.give_dict.Goals as goal

pub returns-clause-becomes : goal.returns-clause-becomes
unfolding place_of
returns-clause-becomes c = λ t r.
    let u = plain t c.args.world.now in
    let q = c.in_ok-more.ensures.reads t r in
    dict-given t (plain t c.give.new.world, bindings t c.in_ok-more.more) u u c.args.attrs c.known-name.result c.built_in-class.result.0
    c.built_in.result.0 (rw c.in_ok-dict.ensures at c.in_ok-more.ensures.becomes t r) refl (c.known-name.ensures.spelled t q) c.built_in-class.ensures.place
    c.built_in.ensures.place
