use Rattle.class_world.proofs.Lemmas.{opening-sound, opening-plain}
use Rattle.class_world.proofs.world.World.new.Goals as goal

pub invariant_of-result : goal.invariant_of-result
invariant_of-result c = rw (c.in_ok-names.ensures, c.in_ok-nodes.ensures, c.in_ok-classes.ensures, c.new-2.ensures.items, c.new-3.ensures, c.new-4.ensures.items, c.new-5.ensures.items, c.new-6.ensures) opening-sound

pub returns-clause-start : goal.returns-clause-start
returns-clause-start c = rw (c.in_ok-names.ensures, c.in_ok-nodes.ensures, c.in_ok-classes.ensures, c.new-2.ensures.items, c.new-3.ensures, c.new-4.ensures.items, c.new-5.ensures.items, c.new-6.ensures) opening-plain
