use Rattle.native_containers.proofs.Lemmas.{◌∙◌, sym, search-begins}
use Rattle.native_containers.proofs.native_items.search.first_asked.Goals as goal

pub returns-clause-goes : goal.returns-clause-goes
returns-clause-goes c =
    let a = c.args in
    let all = c.in_ok-all.all in
    rw c.next_asked.ensures.step (search-begins a.sequence a.object a.needle all a.world.now (λ t. c.items.ensures.same t ∙ sym c.in_ok-all.ensures))
