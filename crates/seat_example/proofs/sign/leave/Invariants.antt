use Rattle.seat_example.proofs.Below.{newest}
use Rattle.seat_example.proofs.sign.leave.Given as goal

abbrev pub ghost-give : goal.ghost-give
ghost-give a = newest a.seat.now.number a.seat.now.seen a.value.names.items
