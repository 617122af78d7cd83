use Rattle.vm_calls.proofs.Lemmas.{subst, World, Reading, plain, IsUsual, loaded-is-read, invoked-is-called}
use Rattle.vm_calls.proofs.laws.loaded_methods_are_read.Goals as goal

pub returns-clause-read : goal.returns-clause-read
returns-clause-read c =
    let usual : (t : Reading) → IsUsual (plain t c.args.vm.now.world) = subst (λ (w : World). (t : Reading) → IsUsual (plain t w)) c.world.ensures c.every_world_is_usual.ensures in
    loaded-is-read c.answers_are_of_their_kinds.ensures c.laws_of_methods.ensures.read c.args.vm.now usual c.is_at_rest.ensures.quiet

pub returns-clause-called : goal.returns-clause-called
returns-clause-called c =
    let usual : (t : Reading) → IsUsual (plain t c.args.vm.now.world) = subst (λ (w : World). (t : Reading) → IsUsual (plain t w)) c.world.ensures c.every_world_is_usual.ensures in
    invoked-is-called c.answers_are_of_their_kinds.ensures c.laws_of_methods.ensures.method c.laws_of_methods.ensures.first c.args.vm.now usual
