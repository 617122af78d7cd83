use Rattle.class_world.proofs.Lemmas.{refl, ap, keeps-itself, named-logged, Held, the_view, IsClass, opened-one, grows-seen, classes-grow, called, called-read, change-like, class-there}
use Rattle.class_world.proofs.ChangedClass.{change-sound}
use Rattle.class_world.proofs.world.World.set_name.Goals as goal

pub set_name-requires-clause-there : goal.set_name-requires-clause-there
set_name-requires-clause-there c = class-there _ _ (opened-one (the_view c.self.inside) c.args.self.now (IsClass c.args.class.0) c.self.view_is c.requires.class)

pub invariant_of-self : goal.invariant_of-self
invariant_of-self c =
    change-sound (called c.args.name.now) (λ k. refl) (λ k. refl) (λ k. refl) (λ k. refl) (the_view c.self.inside) c.args.class.0 c.set_name.new.self (the_view c.self.inside).log (keeps-itself (the_view c.self.inside).log) (named-logged (the_view c.self.inside).log (the_view c.self.inside).classes c.args.class.0 c.args.name.now c.set_name.new.self c.set_name.result c.set_name.ensures.named c.set_name.ensures.err c.self.invariant.logged) c.set_name.result c.set_name.ensures.named c.set_name.ensures.err (λ k h. h) c.self.invariant

pub returns-clause-named : goal.returns-clause-named
returns-clause-named c = called-read (the_view c.self.inside) c.args.self.now c.args.class.0 c.args.name.now c.set_name.new.self (the_view c.self.inside).log c.set_name.result c.set_name.ensures.named c.set_name.ensures.err c.self.invariant.nodes c.self.view_is

pub returns-clause-grows : goal.returns-clause-grows
returns-clause-grows c =
    let w = the_view c.self.inside in
    grows-seen w _ _ c.self.view_is (classes-grow w c.set_name.new.self w.log (keeps-itself w.log) (change-like (called c.args.name.now) (λ k. refl) (λ k. refl) (λ k. refl) (λ k. refl) w c.args.class.0 c.set_name.new.self c.set_name.result c.set_name.ensures.named c.set_name.ensures.err))

pub returns-clause-unlogged : goal.returns-clause-unlogged
returns-clause-unlogged c = ap (λ (w : Held). w.log) c.self.view_is
