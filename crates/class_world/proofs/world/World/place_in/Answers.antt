use Rattle.class_world.proofs.Lemmas.{◌∙◌, held_dict, named-place}
use Rattle.class_world.proofs.world.World.place_in.Goals as goal

pub returns-clause-first : goal.returns-clause-first
returns-clause-first c =
    let now = c.args.self.now in
    c.place_of.ensures.first ∙ named-place now (held_dict now.nodes c.args.dict) c.args.name c.place_of.ensures.distinct c.requires.name c.place_of.ensures.holds
