use Rattle.class_world.proofs.Lemmas.{[], OnOk, sym, subst, ◌∙◌, SetOwn, keeps-more, Held, the_view, Holds, IsClass, IsName, IsNode, opened-one, grows-seen, classes-grow, set-like, set-sound, set-read, unchanged, refused-seen}
use Rattle.std.proofs.Common.{◌≡◌, ◌++◌, ◌∷◌}
use Rattle.class_world.proofs.world.World.set_attr.Goals as goal

pub set_attr-requires : goal.set_attr-requires
unfolding Holds
set_attr-requires c = opened-one (the_view c.self.inside) c.args.self.now (IsClass c.args.class.0) c.self.view_is c.requires.class

pub invariant_of-self : goal.invariant_of-self
invariant_of-self c =
    let w = the_view c.self.inside in
    let name = opened-one w c.args.self.now (IsName c.args.name) c.self.view_is c.requires.name in
    let value = opened-one w c.args.self.now (IsNode c.args.value) c.self.view_is c.requires.value in
    set-sound w c.args.class.0 c.args.name c.args.value c.set_attr.new.classes c.set_attr.new.self (keeps-more w.log c.set_attr.new.self _ c.set_attr.result c.set_attr.ensures.noted c.set_attr.ensures.unnoted) (c.set_attr.ensures.law c.self.invariant.logged) c.set_attr.result c.set_attr.ensures.set c.set_attr.ensures.err c.self.invariant name value

pub returns-clause-set : goal.returns-clause-set
returns-clause-set c =
    set-read (the_view c.self.inside) c.args.class.0 c.args.name c.args.value c.set_attr.new.classes c.set_attr.new.self c.args.self.now c.set_attr.result c.set_attr.ensures.set c.self.view_is c.self.invariant.nodes

pub returns-clause-grows : goal.returns-clause-grows
returns-clause-grows c =
    let w = the_view c.self.inside in
    grows-seen w _ _ c.self.view_is (classes-grow w c.set_attr.new.classes c.set_attr.new.self (keeps-more w.log c.set_attr.new.self _ c.set_attr.result c.set_attr.ensures.noted c.set_attr.ensures.unnoted) (set-like w c.args.class.0 c.args.name c.args.value c.set_attr.new.classes c.set_attr.result c.set_attr.ensures.set c.set_attr.ensures.err))

pub returns-clause-refused : goal.returns-clause-refused
returns-clause-refused c = λ t. c.set_attr.ensures.immutable ∙ sym (refused-seen (the_view c.self.inside) c.args.self.now c.self.view_is t c.args.class.0)

pub returns-clause-logged : goal.returns-clause-logged
returns-clause-logged c =
    subst (λ (w : Held). OnOk c.set_attr.result (c.set_attr.new.self ≡ w.log ++ SetOwn c.args.class.0 c.args.name c.args.value ∷ [])) c.self.view_is c.set_attr.ensures.noted

pub returns-clause-err : goal.returns-clause-err
returns-clause-err c = unchanged (the_view c.self.inside) c.args.self.now c.self.view_is c.set_attr.new.classes c.set_attr.new.self c.set_attr.result c.set_attr.ensures.err c.set_attr.ensures.unnoted
