use Rattle.class_world.proofs.Lemmas.{◌∙◌, none-named, first-named, kept-read, taken-read}
use Rattle.class_world.proofs.world.World.take_value_out.Goals as goal

pub returns-in-None-clause-taken : goal.returns-in-None-clause-taken
returns-in-None-clause-taken c = λ t r.
    let now = c.args.self.now in
    kept-read t now c.args.dict (t.text c.args.name.0) c.requires.holding (none-named t now c.args.dict c.args.name r c.requires.name c.in-None.ensures.first)

pub returns-in-Some-clause-taken : goal.returns-in-Some-clause-taken
returns-in-Some-clause-taken c = λ t r.
    let now = c.args.self.now in
    let reads = c.take_entry.ensures.reads t r in
    c.take_entry.ensures.taken t
    ∙ taken-read t now c.args.dict (t.text c.args.name.0) c.in-Some.place (first-named t now c.args.dict c.args.name reads c.requires.name c.in-Some.place c.in-Some.ensures.first)
