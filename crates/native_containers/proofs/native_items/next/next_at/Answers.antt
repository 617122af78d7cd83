use Rattle.native_containers.proofs.Lemmas.{◌∙◌, ap, sym, all-append, of_task, plain, AllHold, Holding, IsNode, Iterating, of_item_kept, next_place, with_place, nothing-next, item-next, character-next, unknown-next}
use Rattle.py_node.specs.declared.built_in.BuiltIn.TheVariants.{Iterator}
use Rattle.native_containers.proofs.native_items.next.next_at.Goals as goal

pub returns-in-Nothing-clause-goes : goal.returns-in-Nothing-clause-goes
returns-in-Nothing-clause-goes c =
    let a = c.args in
    rw c.raise.ensures (nothing-next a.object a.iterator a.place a.world.now c.set_place.new.world c.set_place.ensures.reads c.in-Nothing.ensures.found c.set_place.ensures.set)

pub returns-in-Item-clause-goes : goal.returns-in-Item-clause-goes
returns-in-Item-clause-goes c =
    let a = c.args in
    item-next a.object a.iterator a.place a.world.now c.set_place-in-Item.new.world c.set_place-in-Item.ensures.reads c.in-Item.item c.in-Item.ensures.found (λ t.
    c.set_place-in-Item.ensures.set t ∙ ap (with_place (plain t a.world.now) a.object a.iterator) c.next_place.ensures)

pub returns-in_ok-item-in-Character-clause-goes : goal.returns-in_ok-item-in-Character-clause-goes
returns-in_ok-item-in-Character-clause-goes c =
    let a = c.args in
    let ch = c.in-Character.character in
    let new = c.in_ok-item-in-Character.ensures in
    character-next a.object a.iterator a.place a.world.now c.set_place-in-Character.new.world (λ t q. new.reads t (c.set_place-in-Character.ensures.reads t q)) ch c.in_ok-item-in-Character.item c.in-Character.ensures.found (λ t. sym (new.number t)) (λ t.
    c.set_place-in-Character.ensures.set t
    ∙ ap (λ n. with_place (plain t c.new_character.new.world) a.object a.iterator n) c.next_place-in-Character.ensures
    ∙ ap (λ u. with_place u a.object a.iterator (next_place a.place)) (new.made t))

pub returns-in_ok-task-in-Unknown-clause-goes : goal.returns-in_ok-task-in-Unknown-clause-goes
returns-in_ok-task-in-Unknown-clause-goes c =
    let a = c.args in
    let new = c.in_ok-task-in-Unknown.ensures in
    unknown-next a.object a.iterator a.place a.world.now c.ask_item.new.world c.ask_item.ensures.reads c.in_ok-task-in-Unknown.task c.in-Unknown.ensures.found new.made new.task

pub returns-in_ok-task-in-Unknown-clause-safe : goal.returns-in_ok-task-in-Unknown-clause-safe
returns-in_ok-task-in-Unknown-clause-safe c =
    let a = c.args in
    let new = c.in_ok-task-in-Unknown in
    let grows = c.ask_item.ensures.grows in
    let kept : AllHold c.ask_item.new.world (of_item_kept (Iterating a.object)) = (grows.still (IsNode a.object) c.requires.object, (grows.still (Holding a.object Iterator) c.requires.holding, tt)) in
    (grows, all-append c.ask_item.new.world (of_task new.task) (of_item_kept (Iterating a.object)) new.ensures.holds kept)
