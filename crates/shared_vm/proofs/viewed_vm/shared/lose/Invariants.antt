use Rattle.shared_vm.proofs.Below.{true, newest}
use Rattle.shared_vm.proofs.viewed_vm.shared.lose.Given as goal

abbrev pub ghost-give : goal.ghost-give
ghost-give a = newest a.seat.now.number a.seat.now.seen a.value.book.journal true
