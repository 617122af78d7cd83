use Rattle.class_world.proofs.Lemmas.{sym, ◌∙◌, subst, has_dict, Held, the_view, Holds, IsClass, opened-one, gives-seen}
use Rattle.std.proofs.Common.{◌≡◌}
use Rattle.class_world.proofs.Look.{dict-there}
use Rattle.class_world.proofs.Reclassed.{dict-seen}
use Rattle.class_world.proofs.world.World.has_dict.Goals as goal

pub has_dict-requires : goal.has_dict-requires
unfolding Holds
has_dict-requires c = opened-one (the_view c.self.inside) c.args.self.now (IsClass c.args.class.0) c.self.view_is c.requires

pub returns-clause-says : goal.returns-clause-says
returns-clause-says c = λ t.
    dict-seen (the_view c.self.inside) c.args.self.now c.self.view_is t c.args.class.0 ∙ sym c.has_dict.ensures.says

pub returns-clause-gives : goal.returns-clause-gives
unfolding Holds
returns-clause-gives c = λ t.
    let w = the_view c.self.inside in
    let there = opened-one w c.args.self.now (IsClass c.args.class.0) c.self.view_is c.requires in
    gives-seen w c.args.self.now c.self.view_is c.sound.ensures.sound t c.args.class.0 there ∙ sym c.has_dict.ensures.says

pub returns-clause-given : goal.returns-clause-given
returns-clause-given c =
    subst (λ (w : Held). has_dict w.classes c.args.class.0 ≡ c.has_dict.result) c.self.view_is (sym c.has_dict.ensures.says)

pub returns-clause-dict : goal.returns-clause-dict
returns-clause-dict c =
    let there = dict-there (the_view c.self.inside) c.args.self.now c.args.class.0 c.self.view_is c.self.invariant in
    rw c.has_dict.ensures.says there
