use Rattle.seat_example.proofs.Below.{Signed}
use Rattle.seat_example.proofs.sign.sign_often.Given as goal

abbrev pub invariant-loop : goal.invariant-loop
invariant-loop g l = Signed l.lock.id l.counter l.initial.seat l.seat
