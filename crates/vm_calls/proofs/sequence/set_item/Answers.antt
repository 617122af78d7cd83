use Rattle.vm_calls.proofs.Lemmas.{rules, refl, to_z-of_z, SetItem, ToProtocol, DoSetItem, IsDone, of_nothing, by-number}
use Rattle.py_node.specs.declared.task.Task.TheVariants as task
use Rattle.vm_calls.proofs.sequence.set_item.Goals as goal

pub returns : goal.returns
returns c = record {
  there = λ h. by-number c.args.i IsDone of_nothing (λ k. ToProtocol (DoSetItem c.args.view.now.obj k c.args.value)) c.args.budget c.args.vm.now c.new_number.new.vm c.ask.new.vm c.in_ok-place.place (simp (to_z-of_z, c.ranges.i) at c.in_ok-place.ensures) (task.Protocol (SetItem c.args.view.now.obj c.in_ok-place.place c.args.value)) (λ t. refl) c.ask.result c.ask.ensures;
  absent = search rules;
}
