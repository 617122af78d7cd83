use Rattle.proto_call.proofs.Lemmas.{◌∙◌, place_of, plain, bindings, wrap-kept, wrap-put}
use Rattle.proto_call.proofs.class_make.attributes.wrap_value.Goals as goal

pub returns-then-not-is_function-clause-becomes : goal.returns-then-not-is_function-clause-becomes
returns-then-not-is_function-clause-becomes c = λ t r.
    wrap-kept t (plain t c.args.world.now) c.args.attrs (t.text c.args.name.0) c.args.value c.in-Some.value c.in-Some.is (c.is_function.ensures t ∙ c.if-not-is_function.true)

pub returns-in_ok-more-in-Some-clause-becomes : goal.returns-in_ok-more-in-Some-clause-becomes
unfolding place_of
returns-in_ok-more-in-Some-clause-becomes c = λ t r.
    wrap-put t (plain t c.put.new.world, bindings t c.in_ok-more-in-Some.more) (plain t c.args.world.now) c.args.attrs (t.text c.args.name.0) c.built_in-class.result.0 c.args.value c.in-Some.value c.in-Some.is (c.is_function.ensures t ∙ c.if-not-is_function.false) (c.in_ok-more-in-Some.ensures.becomes t r) c.built_in-class.ensures.place
