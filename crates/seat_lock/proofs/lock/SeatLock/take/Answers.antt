use Rattle.seat_lock.proofs.Lemmas.{took, took_seen, room_left}
use Rattle.seat_lock.proofs.lock.SeatLock.take.Goals as goal

pub invariant_of-seat : goal.invariant_of-seat
invariant_of-seat g c = took g.T.Turns.stands c.seat.inside c.take_turn.new.place c.take_turn.result c.seat.invariant (room_left c.seat.inside c.args.seat.now c.seat.invariant c.seat.view_is c.requires.room) c.take_turn.ensures

pub returns-clause-seen : goal.returns-clause-seen
returns-clause-seen g c = took_seen g.T.Turns.stands c.seat.inside c.take_turn.new.place c.take_turn.result c.args.seat.now c.seat.view_is c.take_turn.ensures

pub returns-clause-own : goal.returns-clause-own
returns-clause-own g c =
    (took g.T.Turns.stands c.seat.inside c.take_turn.new.place c.take_turn.result c.seat.invariant (room_left c.seat.inside c.args.seat.now c.seat.invariant c.seat.view_is c.requires.room) c.take_turn.ensures).own
