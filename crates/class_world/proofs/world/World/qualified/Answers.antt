use Rattle.class_world.proofs.Lemmas.{ap, sym, ◌∙◌, value_of, is_text, bindings, value-read, value-holds}
use Rattle.class_world.proofs.world.World.qualified.Goals as goal

pub returns-clause-value : goal.returns-clause-value
returns-clause-value c = λ t r.
    ap (λ z. value_of (λ y. is_text y z) (bindings t c.args.attrs.now)) (sym (c.known.ensures.spelled t r))
    ∙ value-read t c.args.attrs.now c.known.result ∙ sym c.get.ensures

pub returns-clause-node : goal.returns-clause-node
returns-clause-node c = rw c.get.ensures (value-holds c.args.self.now _ c.args.attrs.now c.requires)
