use Rattle.class_world.proofs.Lemmas.{sym, ap, ◌∙◌, the_view, last_value, local-read, local-there}
use Rattle.class_world.proofs.world.World.local.Goals as goal

pub returns-clause-found : goal.returns-clause-found
returns-clause-found c = λ t.
    local-read (the_view c.self.inside) c.args.self.now c.args.name c.self.view_is t ∙ sym (c.last_value.ensures ∙ ap (λ ss. last_value ss c.args.name) c.deref.ensures.value)

pub returns-clause-node : goal.returns-clause-node
returns-clause-node c = rw (c.last_value.ensures, c.deref.ensures.value) (local-there (the_view c.self.inside) c.args.self.now c.args.name c.self.view_is c.self.invariant)
