use Rattle.class_world.proofs.Lemmas.{Some, sym, ap, ◌∙◌, class_at, the_view, Holds, IsClass, opened-one, flag-seen, flag-of}
use Rattle.class_world.proofs.world.World.class_flag.Goals as goal

pub flags-requires : goal.flags-requires
unfolding Holds
flags-requires c = opened-one (the_view c.self.inside) c.args.self.now (IsClass c.args.class.0) c.self.view_is c.requires

pub returns : goal.returns
returns c = λ t.
    flag-seen (the_view c.self.inside) c.args.self.now c.self.view_is t c.args.class.0 c.args.flag.0
    ∙ flag-of (class_at c.self.inside.classes c.args.class.0) c.flags.result.0 c.args.flag.0 c.flags.ensures
    ∙ ap Some (sym c.has_feature.ensures)
