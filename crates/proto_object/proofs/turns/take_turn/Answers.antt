use Rattle.proto_object.proofs.Lemmas.{ap, sym, ◌∙◌, Some, None, slice_get, Ask, node-in, Each, turn_step, asked-holds, drop-got, drop-none}
use Rattle.std.proofs.Common.{◌≡◌, ◌+◌}
use Rattle.py_node.specs.declared.task.Task.TheVariants as task
use Rattle.proto_object.proofs.turns.take_turn.Goals as goal

pub returns-in-None-clause-step : goal.returns-in-None-clause-step
returns-in-None-clause-step c =
    let a = c.args in
    let none : slice_get a.items.items a.next ≡ None = ap (λ rs. slice_get rs a.next) (sym c.deref.ensures.value) ∙ c.in-None.ensures in
    c.says.ensures ∙ sym (ap (λ rs. turn_step a.turn rs (Each a.turn a.items (a.next + 1))) (drop-none a.items.items a.next none))

pub returns-in-Some-clause-step : goal.returns-in-Some-clause-step
returns-in-Some-clause-step c =
    let a = c.args in
    let later = Each a.turn a.items (a.next + 1) in
    let some : slice_get a.items.items a.next ≡ Some c.in-Some.item = ap (λ rs. slice_get rs a.next) (sym c.deref.ensures.value) ∙ c.in-Some.ensures in
    ap (λ j. Ask (task.Object j) later) c.asked_of.ensures ∙ sym (ap (λ rs. turn_step a.turn rs later) (drop-got a.items.items a.next c.in-Some.item some))

pub returns-in-Some-clause-safe : goal.returns-in-Some-clause-safe
returns-in-Some-clause-safe c =
    let a = c.args in
    let some : slice_get a.items.items a.next ≡ Some c.in-Some.item = ap (λ rs. slice_get rs a.next) (sym c.deref.ensures.value) ∙ c.in-Some.ensures in
    rw c.asked_of.ensures (asked-holds a.world.now a.turn c.in-Some.item a.items.items c.requires.turn (node-in a.world.now a.items.items a.next c.in-Some.item c.requires.items some) c.requires.items)
