use Rattle.vm_eval.proofs.Lemmas.{Some, sym, subst, ◌∙◌, ap, numbers, refusal, refused_layout, plain, State}
use Rattle.std.proofs.Common.{◌≡◌}
use Rattle.vm_eval.proofs.machine.VirtualMachine.new_heap_slots.Goals as goal

pub returns-clause-early : goal.returns-clause-early
returns-clause-early c = λ t cause e.
    ap refusal c.marked_as.ensures.answer ∙ c.new_heap_slots-class.ensures.early t cause (subst (λ (s : State). refused_layout (plain t s.world).classes (numbers c.args.bases.items) ≡ Some cause) (sym c.self.view_is) e)
