use Rattle.shared_vm.proofs.Below.{false, newest}
use Rattle.shared_vm.proofs.viewed_vm.shared.keep.Given as goal

abbrev pub ghost-give : goal.ghost-give
ghost-give a = newest a.seat.now.number a.seat.now.seen a.value.book.journal false
