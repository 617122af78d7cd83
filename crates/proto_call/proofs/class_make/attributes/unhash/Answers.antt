use Rattle.proto_call.proofs.Lemmas.{refl, sym, ◌∙◌, plain, grows-itself, unhash-kept, unhash-new, insert-holds}
use Rattle.proto_call.proofs.class_make.attributes.unhash.Goals as goal

pub returns-then-not-is_unhashed-clause-becomes : goal.returns-then-not-is_unhashed-clause-becomes
returns-then-not-is_unhashed-clause-becomes c = λ t r.
    let u = plain t c.args.world.now in
    unhash-kept t u u c.args.attrs c.known.result c.known-hash.result refl (c.known.ensures.spelled t r)
    (c.known-hash.ensures.spelled t r) (sym c.is_unhashed.ensures ∙ c.if-not-is_unhashed.true)

pub returns-clause-becomes : goal.returns-clause-becomes
returns-clause-becomes c = λ t r.
    let u = plain t c.args.world.now in
    unhash-new t u u c.args.attrs c.insert.new.self c.known.result c.known-hash.result c.fixed-none.result refl
    (c.known.ensures.spelled t r) (c.known-hash.ensures.spelled t r) (sym c.is_unhashed.ensures ∙ c.if-not-is_unhashed.false)
    c.fixed-none.ensures.number c.in_ok-insert.ensures.ok

pub returns-clause-holds : goal.returns-clause-holds
returns-clause-holds c =
    let w = c.args.world.now in
    insert-holds w w c.args.attrs c.insert.new.self c.known-hash.result c.fixed-none.result (grows-itself w) c.requires
    c.known-hash.ensures.holds c.fixed-none.ensures.node c.in_ok-insert.ensures.ok
