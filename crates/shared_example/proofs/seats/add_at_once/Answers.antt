use denote.Param.Send.{sendable}
use Rattle.shared_example.proofs.Lemmas.{crosses, adder_send, vm_sync}
use Rattle.shared_example.proofs.seats.add_at_once.Goals as goal

pub join-one-requires-send-F : goal.join-one-requires-send-F
join-one-requires-send-F g c κs within = search (vm_sync, adder_send, sendable, crosses) depth 40 fits 100000

pub join-one-requires-send-A : goal.join-one-requires-send-A
join-one-requires-send-A g c κs within = search (adder_send, sendable, crosses) depth 40 fits 100000
