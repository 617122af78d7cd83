use Rattle.class_world.proofs.Lemmas.{sym, ◌∙◌, held_dict, Holds, stored-place, unnamed-absent}
use Rattle.class_world.proofs.world.World.place_under.Goals as goal

pub returns-in-None-clause-first : goal.returns-in-None-clause-first
returns-in-None-clause-first c =
    let now = c.args.self.now in
    sym (unnamed-absent now (held_dict now.nodes c.args.dict) c.args.key c.args.key c.in-None.ensures.none c.entries-entries.ensures.holds)

pub returns-in-Some-clause-first : goal.returns-in-Some-clause-first
unfolding Holds
returns-in-Some-clause-first c =
    let now = c.args.self.now in
    c.place_of.ensures.first
    ∙ stored-place now (held_dict now.nodes c.args.dict) c.in-Some.stored c.args.key c.args.key c.place_of.ensures.distinct c.place_of.ensures.holds (c.in-Some.ensures.read, tt)
