use Rattle.class_world.proofs.Lemmas.{Some, sym, ap, ◌∙◌, subst, place_at, value_at_place, the_view, Held, plain, Holds, IsClass, opened-one, place-seen, place-told}
use Rattle.std.proofs.Common.{◌≡◌}
use Rattle.class_world.proofs.world.World.member_value.Goals as goal

pub place_at-requires : goal.place_at-requires
unfolding Holds
place_at-requires c = opened-one (the_view c.self.inside) c.args.self.now (IsClass c.args.class.0) c.self.view_is c.requires.class

pub returns-in-None-clause-value : goal.returns-in-None-clause-value
returns-in-None-clause-value c = λ t.
    ap (value_at_place (plain t c.args.self.now) c.args.object) (place-seen (the_view c.self.inside) c.args.self.now c.self.view_is t c.args.class.0 c.args.offset ∙ sym c.place_at.ensures ∙ ap place-told c.in-None.is)

pub returns-in-Some-clause-value : goal.returns-in-Some-clause-value
returns-in-Some-clause-value c = λ t.
    ap (value_at_place (plain t c.args.self.now) c.args.object) (place-seen (the_view c.self.inside) c.args.self.now c.self.view_is t c.args.class.0 c.args.offset ∙ sym c.place_at.ensures ∙ ap place-told c.in-Some.is) ∙ c.member.ensures.value t

pub member-requires-clause-place : goal.member-requires-clause-place
member-requires-clause-place c =
    (c.args.class.0, subst (λ (u : Held). place_at u.classes c.args.class.0 c.args.offset ≡ Some (c.in-Some.place.class.0, c.in-Some.place.index)) c.self.view_is (sym c.place_at.ensures ∙ ap place-told c.in-Some.is))
