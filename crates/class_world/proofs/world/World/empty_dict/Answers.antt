use Rattle.class_world.proofs.Lemmas.{refl, sym, ap, subst, AreEmpty, Held, Holds, IsClass, the_view, opened-one, none-hold, empty-hold}
use Rattle.class_world.proofs.world.World.empty_dict.Goals as goal

pub empty_places-requires : goal.empty_places-requires
unfolding Holds
empty_places-requires c = opened-one (the_view c.self.inside) c.args.self.now (IsClass c.class_of_dicts-class.result.0) c.self.view_is c.class_of_dicts-class.ensures.class

pub returns-clause-empty : goal.returns-clause-empty
returns-clause-empty c =
    let class = c.class_of_dicts-class.result in
    let ms = c.in_ok-members.members in
    (c.class_of_dicts-class.ensures.place, refl, subst (λ (u : Held). AreEmpty u.classes class.0 ms) c.self.view_is c.in_ok-members.ensures, c.new.ensures)

pub returns-clause-holds : goal.returns-clause-holds
unfolding Holds
returns-clause-holds c =
    let now = c.args.self.now in
    let class = c.class_of_dicts-class.result in
    let ms = c.in_ok-members.members in
    let members = empty-hold now (the_view c.self.inside).classes class.0 ms (sym (ap (λ (u : Held). u.classes) c.self.view_is)) c.in_ok-members.ensures in
    rw c.new.ensures (c.class_of_dicts-class.ensures.class, (c.class_of_dicts-class.ensures.of, (members, (c.class_of_dicts-class.ensures.none, none-hold now))))
