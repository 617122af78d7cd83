use Rattle.seat_lock.proofs.Lemmas.{sym, ap, ◌∙◌, made_turn, after_turn}
use Rattle.seat_lock.proofs.lock.SeatLock.give.Goals as goal

pub invariant_of-seat : goal.invariant_of-seat
invariant_of-seat g c =
    made_turn g.turn c.seat.inside c.leave_turn.new.place c.seat.invariant (c.requires.1.1.1.1.0 ∙ sym (ap (λ v. v.number) c.seat.view_is)) (ap (λ v. v.in_turn) c.seat.view_is ∙ c.requires.1.1.1.0) c.leave_turn.ensures

pub returns-clause-made : goal.returns-clause-made
returns-clause-made g c = after_turn g.turn c.seat.inside c.leave_turn.new.place c.args.seat.now c.seat.invariant c.seat.view_is c.leave_turn.ensures

pub returns-clause-own : goal.returns-clause-own
returns-clause-own g c =
    (made_turn g.turn c.seat.inside c.leave_turn.new.place c.seat.invariant (c.requires.1.1.1.1.0 ∙ sym (ap (λ v. v.number) c.seat.view_is)) (ap (λ v. v.in_turn) c.seat.view_is ∙ c.requires.1.1.1.0) c.leave_turn.ensures).own
