use Rattle.proto_object.proofs.Lemmas.{ap, sym, subst, ◌∙◌, plain, AreNodes, Holds, keys_of, no-nodes, own_keys}
use Rattle.proto_object.proofs.names.own_keys.Goals as goal

pub returns-in_ok-keys-in-Some-clause-keys : goal.returns-in_ok-keys-in-Some-clause-keys
returns-in_ok-keys-in-Some-clause-keys c = λ t.
    let u = plain t c.args.world.now in
    ap (own_keys u) (c.dict_of.ensures.dict t ∙ c.in-Some.is) ∙ ap keys_of (c.entries.ensures.same t) ∙ sym c.in_ok-keys-in-Some.ensures

pub returns-in_ok-keys-in-Some-clause-holds : goal.returns-in_ok-keys-in-Some-clause-holds
returns-in_ok-keys-in-Some-clause-holds c =
    subst (λ rs. Holds c.args.world.now (AreNodes rs)) (sym c.in_ok-keys-in-Some.ensures) c.entries.ensures.holds.0

pub returns-in-None-clause-holds : goal.returns-in-None-clause-holds
returns-in-None-clause-holds c = rw c.new.ensures.items (no-nodes c.args.world.now)
