use Rattle.vm_eval.proofs.Lemmas.{[], subst, plain, State, none-read, still-none}
use Rattle.std.proofs.Common.{◌≡◌}
use Rattle.vm_eval.proofs.machine.VirtualMachine.make_node.Goals as goal

pub returns-then-self-clause-rests : goal.returns-then-self-clause-rests
returns-then-self-clause-rests c = λ t. subst (λ (s : State). (plain t s.world).scopes ≡ []) c.self.view_is (none-read t c.self.inside.world c.self.invariant.0)

pub returns-in-Ok-clause-rests : goal.returns-in-Ok-clause-rests
returns-in-Ok-clause-rests c = λ t. none-read t c.make_node.new.self (still-none c.self.inside.world c.make_node.new.self c.self.invariant.0 c.make_node.ensures.grows.bodies)

pub returns-in-Err-clause-rests : goal.returns-in-Err-clause-rests
returns-in-Err-clause-rests c = λ t. none-read t c.make_node.new.self (still-none c.self.inside.world c.make_node.new.self c.self.invariant.0 c.make_node.ensures.grows.bodies)
