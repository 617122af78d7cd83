use Rattle.proto_call.proofs.Lemmas.{ap, ◌∙◌, string_bytes, option_map, datum_at, plain, IsNode, text_of, key-named, insert-holds}
use Rattle.proto_call.proofs.class_make.namespace.with_key.Goals as goal

pub returns-in_ok-insert-in-Some-clause-named : goal.returns-in_ok-insert-in-Some-clause-named
returns-in_ok-insert-in-Some-clause-named c = λ t r.
    key-named t c.args.attrs c.insert.new.self c.in_ok-name-in-Some.name (string_bytes c.in-Some.text) c.args.value (text_of (datum_at (plain t c.args.world.now) c.args.key)) (c.in_ok-text.ensures t ∙ ap (option_map (λ s. string_bytes s)) c.in-Some.is) (c.in_ok-name-in-Some.ensures.spelled t r ∙ c.as_str.ensures.value) c.in_ok-insert-in-Some.ensures.ok

pub returns-in_ok-insert-in-Some-clause-holds : goal.returns-in_ok-insert-in-Some-clause-holds
returns-in_ok-insert-in-Some-clause-holds c =
    insert-holds c.args.world.now c.intern.new.self c.args.attrs c.insert.new.self c.in_ok-name-in-Some.name c.args.value c.in_ok-name-in-Some.ensures.grows c.requires.attrs c.in_ok-name-in-Some.ensures.holds (c.in_ok-name-in-Some.ensures.grows.still (IsNode c.args.value) c.requires.value) c.in_ok-insert-in-Some.ensures.ok
