use Rattle.proto_call.proofs.Lemmas.{true, false, ◌∙◌, numbers, slot_texts, bindings, plain, dict-wanted}
use Rattle.proto_call.proofs.class_make.attributes.dicted.Goals as goal

pub returns-then-not-would_have_dict-clause-becomes : goal.returns-then-not-would_have_dict-clause-becomes
returns-then-not-would_have_dict-clause-becomes c = λ t r.
    dict-wanted false (numbers c.args.bases.now) (slot_texts t c.args.slots.now) (plain t c.args.world.now, bindings t c.args.attrs) (c.would_have_dict.ensures t r ∙ c.if-not-would_have_dict.true)

pub returns-clause-becomes : goal.returns-clause-becomes
returns-clause-becomes c = λ t r.
    let q = c.in_ok-more.ensures.reads t r in
    c.in_ok-more.ensures.becomes t r ∙ dict-wanted true (numbers c.args.bases.now) (slot_texts t c.args.slots.now) (plain t c.args.world.now, bindings t c.args.attrs) (c.would_have_dict.ensures t q ∙ c.if-not-would_have_dict.false)
