use Rattle.proto_object.proofs.Lemmas.{[], ap, subst, ◌∙◌, ℤ, to_z-of_z, PyObjectRef, PlainWorld, Said, plain, entered, with_slice, part-deleted}
use Rattle.std.proofs.Common.{◌≡◌, ◌∷◌}
use Rattle.py_node.specs.declared.known.Known.TheVariants as known
use Rattle.proto_object.proofs.proto_items.slices.begin_delete_slice.Goals as goal

pub returns-in_ok-task-in-Some-clause-goes : goal.returns-in_ok-task-in-Some-clause-goes
returns-in_ok-task-in-Some-clause-goes c = λ t r.
    let a = c.args in
    let slice = c.in_ok-slice-in-Some in
    let old = slice.ensures.reads t r in
    let w = plain t a.world.now in
    let new = plain t c.new_slice.new.world in
    let Made : ℤ → ℤ → Type 0 = λ i j. (go : PlainWorld → PyObjectRef → Said) → with_slice w i j go ≡ go new slice.slice in
    let made : Made a.start a.stop = subst (λ i. Made i a.stop) (to_z-of_z c.ranges.start) (subst (Made _) (to_z-of_z c.ranges.stop) (slice.ensures.made t)) in
    part-deleted t a.world.now c.new_slice.new.world a.o slice.slice a.start a.stop c.in-Some.entry c.in_ok-task-in-Some.task old made (c.in-Some.ensures t old) (c.in_ok-task-in-Some.ensures.task t r ∙ ap (λ e. entered e known.DelItem a.o (slice.slice ∷ [])) c.deleted.ensures)
