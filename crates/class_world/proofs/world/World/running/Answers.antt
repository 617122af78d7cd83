use Rattle.class_world.proofs.Lemmas.{sym, ap, ◌∙◌, the_view, last_function, function-read, function-there}
use Rattle.class_world.proofs.world.World.running.Goals as goal

pub returns-clause-function : goal.returns-clause-function
returns-clause-function c = λ t.
    function-read (the_view c.self.inside) c.args.self.now c.self.view_is t ∙ sym (c.last_function.ensures ∙ ap last_function c.deref.ensures.value)

pub returns-clause-node : goal.returns-clause-node
returns-clause-node c = rw (c.last_function.ensures, c.deref.ensures.value) (function-there (the_view c.self.inside) c.args.self.now c.self.view_is c.self.invariant)
