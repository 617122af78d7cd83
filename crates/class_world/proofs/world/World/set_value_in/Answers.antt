use Rattle.class_world.proofs.Lemmas.{◌∙◌, on_ok_weaker, none-named, first-named, add-read, put-read}
use Rattle.class_world.proofs.world.World.set_value_in.Goals as goal

pub returns-in-None-clause-set : goal.returns-in-None-clause-set
returns-in-None-clause-set c =
    let now = c.args.self.now in
    on_ok_weaker c.add_value.result (λ added t r.
    let reads = c.add_value.ensures.reads t r in
    added t r ∙ add-read t now c.args.dict (t.text c.args.name.0) c.args.value (none-named t now c.args.dict c.args.name reads c.requires.name c.in-None.ensures.first)) c.add_value.ensures.added

pub returns-in-Some-clause-set : goal.returns-in-Some-clause-set
returns-in-Some-clause-set c = λ t r.
    let now = c.args.self.now in
    let reads = c.put_value.ensures.reads t r in
    c.put_value.ensures.put t
    ∙ put-read t now c.args.dict (t.text c.args.name.0) c.args.value c.in-Some.place (first-named t now c.args.dict c.args.name reads c.requires.name c.in-Some.place c.in-Some.ensures.first)
