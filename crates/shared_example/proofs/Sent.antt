-- What may go to another thread: a reference to a shared machine, and a seat.
use denote.Param.Send.{IsSend, IsSync, sendable}
use Rattle.shared_example.proofs.Below.{crosses}
use Rattle.py_node.proofs.expr.Constant.TheSendSync as constant
use Rattle.py_node.proofs.expr.Word.TheSendSync as word
use Rattle.py_node.proofs.raised.Kind.TheSendSync as kind
use Rattle.py_node.proofs.expr.Expr.TheLaws.TheKnot as knot
use Rattle.py_node.proofs.reply.Reply.TheSendSync as reply
use Rattle.py_node.specs.contracts.expr.Command as command
use Rattle.vm_eval.proofs.machine.VirtualMachine.TheSendSync as machine
use Rattle.seat_lock.proofs.seat.LockSeat.TheSendSync as seat
use Rattle.seat_lock.proofs.lock.SeatLock.TheSendSync as lock
use Rattle.shared_vm.specs.contracts.entry.Entry as entry
use Rattle.shared_vm.specs.contracts.book.Book as book
use Rattle.shared_vm.specs.contracts.shared.SharedVm as shared
use Rattle.shared_example.specs.contracts.seats.Adder as adder

command_field : IsSend (command.the_field).row
command_field = search (constant.the_field_send, word.the_field_send, kind.the_field_send, knot.crosses, crosses, sendable) depth 60 fits 20000

command_send : IsSend command.the_row
command_send = search (command_field, sendable) depth 20

entry_field : IsSend (entry.the_field).row
entry_field = search (command_field, reply.the_field_send, sendable) depth 40

entry_send : IsSend entry.the_row
entry_send = search (entry_field, sendable) depth 20

pub book_send : IsSend book.the_row
book_send = search (machine.the_send, entry_send, sendable, crosses) depth 30

pub vm_sync : IsSync shared.the_row
vm_sync = search (lock.the_sync, book_send, sendable, crosses) depth 30

pub adder_send : IsSend adder.the_row
adder_send = search (seat.the_send, book_send, sendable, crosses) depth 40 fits 100000
