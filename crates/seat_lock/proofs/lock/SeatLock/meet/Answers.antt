use Rattle.seat_lock.proofs.Lemmas.{rules, sym, ap, ◌∙◌, copies, learnt_own}
use Rattle.seat_lock.proofs.lock.SeatLock.meet.Goals as goal

pub split_seat-copy-requires : goal.split_seat-copy-requires
split_seat-copy-requires g c = (ap (λ v. v.lock) c.other.view_is ∙ (c.requires.other.0 ∙ sym (ap (λ l. l.id) c.self.view_is)), search rules, copies g.T.Turns.stands _ _ _)

pub invariant_of-seat : goal.invariant_of-seat
invariant_of-seat g c = learnt_own c.seat.inside c.split_seat-copy.result c.learn_from.new.place c.seat.invariant (ap (λ m. m.0.accounts) c.split_seat-copy.ensures.4) c.learn_from.ensures

pub returns-clause-own : goal.returns-clause-own
returns-clause-own g c = (learnt_own c.seat.inside c.split_seat-copy.result c.learn_from.new.place c.seat.invariant (ap (λ m. m.0.accounts) c.split_seat-copy.ensures.4) c.learn_from.ensures).own
