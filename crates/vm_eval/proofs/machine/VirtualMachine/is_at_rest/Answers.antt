use Rattle.vm_eval.proofs.Lemmas.{[], subst, plain, State, none-read, quiet-read}
use Rattle.std.proofs.Common.{◌≡◌}
use Rattle.vm_eval.proofs.machine.VirtualMachine.is_at_rest.Goals as goal

pub returns-clause-rests : goal.returns-clause-rests
returns-clause-rests c = λ t. subst (λ (s : State). (plain t s.world).scopes ≡ []) c.self.view_is (none-read t c.self.inside.world c.self.invariant.0)

pub returns-clause-quiet : goal.returns-clause-quiet
returns-clause-quiet c = λ t. subst (λ (s : State). (plain t s.world).calls ≡ []) c.self.view_is (quiet-read t c.self.inside.world c.self.invariant.1)
