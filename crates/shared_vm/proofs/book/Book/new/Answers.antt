use Rattle.shared_vm.proofs.Lemmas.{subst, Held, IsReadable, true_new}
use Rattle.shared_vm.proofs.book.Book.new.Goals as goal

pub invariant_of-result : goal.invariant_of-result
invariant_of-result c =
    let readable = subst (λ (w : Held). IsReadable w) c.world.ensures c.readable.ensures in
    true_new c.in_ok-machine.machine c.new-2.result.items c.new-2.ensures.items readable c.in_ok-machine.ensures.start
