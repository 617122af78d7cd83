use Rattle.shared_vm.proofs.Lemmas.{subst, crosses, Worker, Worked, vm_sync, worker_send}
use denote.Param.Send.{sendable}
use Rattle.shared_vm.proofs.shared_run.crew.work_all.Goals as goal

pub for_each_mut-requires-send-T : goal.for_each_mut-requires-send-T
for_each_mut-requires-send-T g c = search (worker_send, sendable) depth 30

pub for_each_mut-requires-sync-F : goal.for_each_mut-requires-sync-F
for_each_mut-requires-sync-F g c = search (vm_sync, sendable, crosses) depth 30

pub returns : goal.returns
returns g c = λ k d less.
    let at = (c.for_each_mut.ensures k d less).1 in
    subst (λ (p : Worker × Worker). Worked c.args.vm.now.id c.args.budget p.0 p.1) (λ i. (at.argument_is i, at.left i)) at.call
