use Rattle.class_world.proofs.Lemmas.{sym, ap, ◌∙◌, the_view, value_in, variable-read, value-there}
use Rattle.class_world.proofs.world.World.variable.Goals as goal

pub returns-clause-found : goal.returns-clause-found
returns-clause-found c = λ t.
    variable-read (the_view c.self.inside) c.args.self.now c.args.name c.self.view_is t ∙ sym (c.value_in.ensures ∙ ap (λ ss. value_in ss c.self.inside.vars c.args.name) c.deref.ensures.value)

pub returns-clause-node : goal.returns-clause-node
returns-clause-node c = rw (c.value_in.ensures, c.deref.ensures.value) (value-there (the_view c.self.inside) c.args.self.now c.args.name c.self.view_is c.self.invariant)
