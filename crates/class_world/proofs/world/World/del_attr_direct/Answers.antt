use Rattle.class_world.proofs.Lemmas.{[], true, Ok, sym, subst, ◌∙◌, refl, DelOwn, keeps-taken, Held, the_view, Holds, IsClass, opened-one, grows-seen, classes-grow, unchanged, without, change-like, without-holds, without-read, own-told, refused-seen}
use Rattle.std.proofs.Common.{◌≡◌, ◌++◌, ◌∷◌}
use Rattle.class_world.proofs.ChangedClass.{change-sound}
use Rattle.class_world.proofs.world.World.del_attr_direct.Goals as goal

pub del_attr_direct-requires : goal.del_attr_direct-requires
unfolding Holds
del_attr_direct-requires c = opened-one (the_view c.self.inside) c.args.self.now (IsClass c.args.class.0) c.self.view_is c.requires.class

pub invariant_of-self : goal.invariant_of-self
invariant_of-self c =
    let w = the_view c.self.inside in
    change-sound (without c.args.name) (λ k. refl) (λ k. refl) (λ k. refl) (λ k. refl) w c.args.class.0 c.del_attr_direct.new.classes c.del_attr_direct.new.self (keeps-taken w.log c.del_attr_direct.new.self _ c.del_attr_direct.result c.del_attr_direct.ensures.noted c.del_attr_direct.ensures.unneeded c.del_attr_direct.ensures.unnoted) (c.del_attr_direct.ensures.law c.self.invariant.logged) c.del_attr_direct.result c.del_attr_direct.ensures.taken c.del_attr_direct.ensures.err (without-holds w c.args.name) c.self.invariant

pub returns-clause-taken : goal.returns-clause-taken
returns-clause-taken c =
    without-read (the_view c.self.inside) c.args.self.now c.args.class.0 c.args.name c.del_attr_direct.new.classes c.del_attr_direct.new.self c.del_attr_direct.result c.del_attr_direct.ensures.taken c.del_attr_direct.ensures.err c.self.invariant.nodes c.self.view_is

pub returns-clause-there : goal.returns-clause-there
returns-clause-there c = own-told (the_view c.self.inside) c.args.self.now c.self.view_is c.args.class.0 c.args.name c.del_attr_direct.result c.del_attr_direct.ensures.there

pub returns-clause-grows : goal.returns-clause-grows
returns-clause-grows c =
    let w = the_view c.self.inside in
    grows-seen w _ _ c.self.view_is (classes-grow w c.del_attr_direct.new.classes c.del_attr_direct.new.self (keeps-taken w.log c.del_attr_direct.new.self _ c.del_attr_direct.result c.del_attr_direct.ensures.noted c.del_attr_direct.ensures.unneeded c.del_attr_direct.ensures.unnoted) (change-like (without c.args.name) (λ k. refl) (λ k. refl) (λ k. refl) (λ k. refl) w c.args.class.0 c.del_attr_direct.new.classes c.del_attr_direct.result c.del_attr_direct.ensures.taken c.del_attr_direct.ensures.err))

pub returns-clause-refused : goal.returns-clause-refused
returns-clause-refused c = λ t. c.del_attr_direct.ensures.immutable ∙ sym (refused-seen (the_view c.self.inside) c.args.self.now c.self.view_is t c.args.class.0)

pub returns-clause-logged : goal.returns-clause-logged
returns-clause-logged c =
    subst (λ (w : Held). c.del_attr_direct.result ≡ Ok true → c.del_attr_direct.new.self ≡ w.log ++ DelOwn c.args.class.0 c.args.name ∷ []) c.self.view_is c.del_attr_direct.ensures.noted

pub returns-clause-absent : goal.returns-clause-absent
returns-clause-absent c = λ e.
    let w = the_view c.self.inside in
    let ks = c.del_attr_direct.ensures.absent e in
    let log = c.del_attr_direct.ensures.unneeded e in
    (λ i. record w { classes = ks i; log = log i }) ∙ c.self.view_is

pub returns-clause-err : goal.returns-clause-err
returns-clause-err c = unchanged (the_view c.self.inside) c.args.self.now c.self.view_is c.del_attr_direct.new.classes c.del_attr_direct.new.self c.del_attr_direct.result c.del_attr_direct.ensures.err c.del_attr_direct.ensures.unnoted
