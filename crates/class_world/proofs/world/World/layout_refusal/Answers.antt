use Rattle.class_world.proofs.Lemmas.{sym, ◌∙◌, numbers, the_view, of_class_ref, of_each, opened, bases-there, layout-seen}
use Rattle.class_world.proofs.world.World.layout_refusal.Goals as goal

pub best_base-requires : goal.best_base-requires
best_base-requires c =
    let w = the_view c.self.inside in
    bases-there w c.args.bases.now (opened w c.args.self.now (of_each of_class_ref c.args.bases.now) c.self.view_is c.requires)

pub returns-in-Ok : goal.returns-in-Ok
returns-in-Ok c = λ t.
    layout-seen (the_view c.self.inside) c.args.self.now c.self.view_is t (numbers c.args.bases.now) ∙ sym c.in-Ok.ensures.refused

pub returns-in-Err : goal.returns-in-Err
returns-in-Err c = λ t.
    layout-seen (the_view c.self.inside) c.args.self.now c.self.view_is t (numbers c.args.bases.now) ∙ sym c.in-Err.ensures.refused
