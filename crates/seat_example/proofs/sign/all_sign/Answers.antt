use Rattle.seat_example.proofs.Lemmas.{refl, Some, ROUNDS, MaySign, popped, may_still}
use Rattle.seat_example.proofs.sign.all_sign.Goals as goal

pub both_sign-second-requires-after_bounds : goal.both_sign-second-requires-after_bounds
both_sign-second-requires-after_bounds g c κs within =
    let P = MaySign c.args.lock.id ROUNDS in
    let third = popped P c.args.seats.items c.pop.new.self.items (Some c.in-Some.third) c.in-Some.third c.in-Some.ensures.items refl c.requires.seats in
    let second = popped P c.pop.new.self.items c.pop-2.new.self.items (Some c.in-Some-pop.second) c.in-Some-pop.second c.in-Some-pop.ensures.items refl third.0 in (
      may_still c.args.lock.id ROUNDS c.in-Some-pop.second c.meet.new.seat second.1 c.meet.ensures.same c.meet.ensures.free,
      may_still c.args.lock.id ROUNDS c.in-Some.third c.meet-2.new.seat third.1 c.meet-2.ensures.same c.meet-2.ensures.free,
    )
