use Rattle.shared_vm.proofs.Below.{true, newest}
use Rattle.shared_vm.proofs.shared.lose.Given as goal

abbrev pub ghost-give : goal.ghost-give
ghost-give a = newest a.seat.now.number a.seat.now.seen a.value.journal true
