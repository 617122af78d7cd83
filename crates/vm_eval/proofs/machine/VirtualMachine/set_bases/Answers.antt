use Rattle.vm_eval.proofs.Lemmas.{Some, sym, subst, ◌∙◌, ap, IsSome, numbers, refused_change, told, plain, State}
use Rattle.std.proofs.Common.{◌≡◌}
use Rattle.vm_eval.proofs.machine.VirtualMachine.set_bases.Goals as goal

pub returns-clause-early : goal.returns-clause-early
returns-clause-early g c = λ t cause e.
    ap told c.marked_as.ensures.answer ∙ c.set_bases-set.ensures.early t cause (subst (λ (s : State). refused_change (plain t s.world).classes c.args.class.0 (numbers c.args.bases.items) ≡ Some cause) (sym c.self.view_is) e)

pub returns-clause-uncounted : goal.returns-clause-uncounted
returns-clause-uncounted g c = λ t e.
    c.set_bases-set.ensures.uncounted t (subst (λ (s : State). IsSome (refused_change (plain t s.world).classes c.args.class.0 (numbers c.args.bases.items))) (sym c.self.view_is) e)
