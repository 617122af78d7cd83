use Rattle.native_containers.proofs.Lemmas.{◌∙◌, ap, sym, subst, Ok, false, slice_get, Truth, Searching, Resumes, next_asked, search-goes}
use Rattle.std.proofs.Common.{◌≡◌}
use Rattle.native_containers.proofs.native_items.search.searched.Goals as goal

pub returns-in-Ok-Truth-false-clause-goes : goal.returns-in-Ok-Truth-false-clause-goes
returns-in-Ok-Truth-false-clause-goes c =
    let a = c.args in
    let p = c.in-Ok-Truth-false in
    let truth : p.field-0 ≡ Truth p.field-0-0 = rw p.is at p.field-0-is in
    let none : p.field-0-0 ≡ false = sym p.field-0-0-is ∙ p.field-0-0-test in
    let is : a.answer ≡ Ok (Truth false) = p.is ∙ ap Ok (truth ∙ ap Truth none) in
    rw c.next_asked.ensures.step (subst (λ r. Resumes (Searching a.needle a.items a.next) r a.world.now a.world.now (next_asked a.needle a.items a.next (slice_get a.items.items a.next))) (sym is) (search-goes a.needle a.items a.next a.world.now))
