use Rattle.class_world.proofs.Lemmas.{the_view, of_class_ref, of_each, opened, bases-there}
use Rattle.class_world.proofs.world.World.refuse_name.Goals as goal

pub may_derive-requires : goal.may_derive-requires
may_derive-requires c =
    let w = the_view c.self.inside in
    bases-there w c.args.bases.now (opened w c.args.self.now (of_each of_class_ref c.args.bases.now) c.self.view_is c.requires)
