use Rattle.proto_call.proofs.Lemmas.{ap, ◌∙◌, known_text, grows-on, completed, wrap, qualify, unhash}
use Rattle.py_node.specs.declared.known.Known.TheVariants as known
use Rattle.proto_call.proofs.class_make.attributes.completed.Goals as goal

pub returns-clause-becomes : goal.returns-clause-becomes
unfolding completed
returns-clause-becomes c = λ t r.
    let two = c.in_ok-qualified.ensures.reads t r in
    let one = c.in_ok-wrapped.ensures.reads t two in
    c.in_ok-unhashed.ensures.becomes t r
    ∙ ap unhash (c.in_ok-qualified.ensures.becomes t r)
    ∙ ap (λ s. unhash (qualify c.args.name.now s)) (c.in_ok-wrapped.ensures.becomes t two)
    ∙ ap (λ s. unhash (qualify c.args.name.now (wrap (known_text known.ClassGetitem) s))) (c.in_ok-told.ensures.becomes t one)

pub returns-in_err-unhashed-clause-grows : goal.returns-in_err-unhashed-clause-grows
returns-in_err-unhashed-clause-grows c =
    grows-on c.args.world.now c.wrap.new.world c.qualify.new.world c.in_ok-told.ensures.grows (grows-on c.wrap.new.world c.wrap-2.new.world c.qualify.new.world c.in_ok-wrapped.ensures.grows c.in_ok-qualified.ensures.grows)

pub returns-clause-grows : goal.returns-clause-grows
returns-clause-grows c =
    grows-on c.args.world.now c.wrap.new.world c.qualify.new.world c.in_ok-told.ensures.grows (grows-on c.wrap.new.world c.wrap-2.new.world c.qualify.new.world c.in_ok-wrapped.ensures.grows c.in_ok-qualified.ensures.grows)
