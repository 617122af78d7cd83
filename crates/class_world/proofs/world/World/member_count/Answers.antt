use Rattle.class_world.proofs.Lemmas.{◌∙◌, the_view, IsClass, opened-one, count-seen, offset-within, class-there}
use Rattle.class_world.proofs.world.World.member_count.Goals as goal

pub member_count-requires : goal.member_count-requires
member_count-requires c = class-there _ _ (opened-one (the_view c.self.inside) c.args.self.now (IsClass c.args.class.0) c.self.view_is c.requires)

pub returns-clause-count : goal.returns-clause-count
returns-clause-count c = λ t. count-seen (the_view c.self.inside) c.args.self.now c.self.view_is t c.args.class.0 ∙ c.member_count.ensures

pub returns-clause-offsets : goal.returns-clause-offsets
returns-clause-offsets c = λ n l.
    offset-within (the_view c.self.inside) c.args.self.now c.self.view_is c.args.class.0 c.member_count.result n c.member_count.ensures l
