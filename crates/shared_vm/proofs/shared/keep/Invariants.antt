use Rattle.shared_vm.proofs.Below.{false, newest}
use Rattle.shared_vm.proofs.shared.keep.Given as goal

abbrev pub ghost-give : goal.ghost-give
ghost-give a = newest a.seat.now.number a.seat.now.seen a.value.journal false
