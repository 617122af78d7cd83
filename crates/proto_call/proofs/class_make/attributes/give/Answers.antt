use Rattle.proto_call.proofs.Lemmas.{sym, ◌∙◌, plain, bindings, datum, give-had, give-new}
use Rattle.proto_call.proofs.class_make.attributes.give.Goals as goal

pub returns-then-contains-clause-becomes : goal.returns-then-contains-clause-becomes
returns-then-contains-clause-becomes c = λ t r.
    give-had t (plain t c.args.world.now) c.args.attrs c.args.name c.args.class.0 (datum t c.args.payload) (sym c.contains.ensures ∙ c.if-contains.true)

pub returns-clause-becomes : goal.returns-clause-becomes
returns-clause-becomes c = λ t r.
    give-new t (plain t c.put.new.world, bindings t c.in_ok-more.more) (plain t c.args.world.now) c.args.attrs c.args.name c.args.class.0 (datum t c.args.payload) (sym c.contains.ensures ∙ c.if-contains.false) (c.in_ok-more.ensures.becomes t r)
