use Rattle.class_world.proofs.world.World.classes.Goals as goal

pub returns-clause-known : goal.returns-clause-known
returns-clause-known c = rw (← c.self.view_is) c.self.invariant.known
