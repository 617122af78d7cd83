use Rattle.class_world.proofs.Lemmas.{[], OnOk, length, subst, with_bases, SetBases, descendants, numbers, line_places, keeps-more, Held, the_view, Reads, IsClass, of_class_ref, of_each, opened, opened-one, grows-seen, classes-grow, bases-there, unchanged, first-seen, early-seen, told-seen, bases-like, bases-sound, bases-set, class-there}
use Rattle.std.proofs.Common.{◌≡◌, ◌++◌, ◌∷◌, ◌+◌, ◌*◌, ◌≤◌}
use Rattle.class_world.proofs.world.World.set_bases.Goals as goal

pub set_bases-requires-clause-own : goal.set_bases-requires-clause-own
set_bases-requires-clause-own g c = class-there _ _ (opened-one (the_view c.self.inside) c.args.self.now (IsClass c.args.class.0) c.self.view_is c.requires.class)

pub set_bases-requires-clause-there : goal.set_bases-requires-clause-there
set_bases-requires-clause-there g c =
    let w = the_view c.self.inside in
    bases-there w c.args.bases.items (opened w c.args.self.now (of_each of_class_ref c.args.bases.items) c.self.view_is c.requires.bases)

pub invariant_of-self : goal.invariant_of-self
invariant_of-self g c =
    let w = the_view c.self.inside in
    let here = class-there w c.args.class.0 (opened-one w c.args.self.now (IsClass c.args.class.0) c.self.view_is c.requires.class) in
    let there = bases-there w c.args.bases.items (opened w c.args.self.now (of_each of_class_ref c.args.bases.items) c.self.view_is c.requires.bases) in
    bases-sound w c.args.class.0 (numbers c.args.bases.items) c.sound.ensures.sound here there c.set_bases.new.classes c.set_bases.new.self (keeps-more w.log c.set_bases.new.self _ c.set_bases.result c.set_bases.ensures.noted c.set_bases.ensures.unnoted) (c.set_bases.ensures.law c.self.invariant.logged) c.set_bases.result c.set_bases.ensures.set c.set_bases.ensures.err c.set_bases.ensures.refused c.self.invariant

pub returns-clause-early : goal.returns-clause-early
returns-clause-early g c =
    first-seen (the_view c.self.inside) c.args.self.now c.self.view_is c.args.class.0 (numbers c.args.bases.items) _ c.set_bases.ensures.early

pub returns-clause-refused : goal.returns-clause-refused
returns-clause-refused g c =
    told-seen (the_view c.self.inside) c.args.self.now c.self.view_is c.args.class.0 (numbers c.args.bases.items) c.set_bases.result c.set_bases.ensures.refused

pub returns-clause-uncounted : goal.returns-clause-uncounted
returns-clause-uncounted g c =
    early-seen (the_view c.self.inside) c.args.self.now c.self.view_is c.args.class.0 (numbers c.args.bases.items) c.set_bases.ensures.uncounted

pub returns-clause-set : goal.returns-clause-set
returns-clause-set g c =
    let w = the_view c.self.inside in
    let here = class-there w c.args.class.0 (opened-one w c.args.self.now (IsClass c.args.class.0) c.self.view_is c.requires.class) in
    let there = bases-there w c.args.bases.items (opened w c.args.self.now (of_each of_class_ref c.args.bases.items) c.self.view_is c.requires.bases) in
    let like = bases-like w c.args.class.0 (numbers c.args.bases.items) c.sound.ensures.sound here there c.set_bases.new.classes c.set_bases.result c.set_bases.ensures.set c.set_bases.ensures.err c.set_bases.ensures.refused in
    bases-set w c.args.self.now c.args.class.0 (numbers c.args.bases.items) c.set_bases.new.classes c.set_bases.new.self c.set_bases.result c.set_bases.ensures.set like c.self.invariant.nodes c.self.view_is

pub returns-clause-reads : goal.returns-clause-reads
returns-clause-reads g c = λ t r. subst (Reads t) c.self.view_is (record { names = r.names; trees = r.trees })

pub returns-clause-grows : goal.returns-clause-grows
returns-clause-grows g c =
    let w = the_view c.self.inside in
    let here = class-there w c.args.class.0 (opened-one w c.args.self.now (IsClass c.args.class.0) c.self.view_is c.requires.class) in
    let there = bases-there w c.args.bases.items (opened w c.args.self.now (of_each of_class_ref c.args.bases.items) c.self.view_is c.requires.bases) in
    grows-seen w _ _ c.self.view_is (classes-grow w c.set_bases.new.classes c.set_bases.new.self (keeps-more w.log c.set_bases.new.self _ c.set_bases.result c.set_bases.ensures.noted c.set_bases.ensures.unnoted) (bases-like w c.args.class.0 (numbers c.args.bases.items) c.sound.ensures.sound here there c.set_bases.new.classes c.set_bases.result c.set_bases.ensures.set c.set_bases.ensures.err c.set_bases.ensures.refused))

pub returns-clause-few_merges : goal.returns-clause-few_merges
returns-clause-few_merges g c =
    subst (λ (n : Held). c.set_bases.new.steps.merges ≤ c.args.steps.now.merges + length (descendants n.classes c.args.class.0)) c.self.view_is c.set_bases.ensures.few_merges

pub returns-clause-logged : goal.returns-clause-logged
returns-clause-logged g c =
    subst (λ (w : Held). OnOk c.set_bases.result (c.set_bases.new.self ≡ w.log ++ SetBases c.args.class.0 (numbers c.args.bases.items) ∷ [])) c.self.view_is c.set_bases.ensures.noted

pub returns-clause-err : goal.returns-clause-err
returns-clause-err g c = unchanged (the_view c.self.inside) c.args.self.now c.self.view_is c.set_bases.new.classes c.set_bases.new.self c.set_bases.result c.set_bases.ensures.err c.set_bases.ensures.unnoted

pub returns-clause-few_probes : goal.returns-clause-few_probes
returns-clause-few_probes g c =
    subst (λ (n : Held). c.set_bases.new.steps.probes ≤ c.args.steps.now.probes + 70 * line_places (with_bases n.classes c.args.class.0 (numbers c.args.bases.items)) (descendants n.classes c.args.class.0)) c.self.view_is c.set_bases.ensures.few_probes
