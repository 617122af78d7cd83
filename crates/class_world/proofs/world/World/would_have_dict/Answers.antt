use Rattle.class_world.proofs.Lemmas.{sym, ◌∙◌, the_view, dict-read}
use Rattle.class_world.proofs.world.World.would_have_dict.Goals as goal

pub returns : goal.returns
returns c = λ t r.
    sym (c.would_have_dict.ensures ∙ dict-read (the_view c.self.inside) c.args.self.now c.self.view_is c.self.invariant t r _ c.args.slots.now)
