use Rattle.native_containers.proofs.Lemmas.{◌∙◌, [], Err, ap, refl, Next, OfIterator, IterEnd, raised, Ends, fault, datum_at, plain, found_in, iterator_in, next_by, next_from, next_in, ends-does, same-does-ok}
use Rattle.std.proofs.Common.{◌∷◌}
use Rattle.native_containers.proofs.native_items.next.next_from.Goals as goal

pub returns-in-None-clause-goes : goal.returns-in-None-clause-goes
returns-in-None-clause-goes c =
    let a = c.args in
    rw c.raise.ensures (ends-does (OfIterator Next) (a.object ∷ []) (λ t u. next_by u a.object (iterator_in (datum_at u a.object))) (λ t u. Ends u (fault IterEnd)) a.world.now a.world.now (Err (raised IterEnd))
    (λ t. ap (next_by (plain t a.world.now) a.object) (c.in-None.ensures.reads t)) (λ t q. (q, refl)))

pub returns-in-None-place-clause-goes : goal.returns-in-None-place-clause-goes
returns-in-None-place-clause-goes c =
    let a = c.args in
    let i = c.in-Some.iterator in
    rw c.raise-in-None-place.ensures (ends-does (OfIterator Next) (a.object ∷ []) (λ t u. next_by u a.object (iterator_in (datum_at u a.object))) (λ t u. Ends u (fault IterEnd)) a.world.now a.world.now (Err (raised IterEnd))
    (λ t. let u = plain t a.world.now in ap (next_by u a.object) (c.in-Some.ensures.reads t) ∙ ap (next_from u a.object i) c.in-None-place.is) (λ t q. (q, refl)))

pub returns-in-Some-place-clause-goes : goal.returns-in-Some-place-clause-goes
returns-in-Some-place-clause-goes c =
    let a = c.args in
    let i = c.in-Some.iterator in
    let n = c.in-Some-place.place in
    same-does-ok (OfIterator Next) (a.object ∷ []) (λ t u. next_by u a.object (iterator_in (datum_at u a.object))) (λ t u. next_in u a.object i n (found_in n (datum_at u i.object))) a.world.now c.next_at.new.world c.next_at.result
    (λ t. let u = plain t a.world.now in ap (next_by u a.object) (c.in-Some.ensures.reads t) ∙ ap (next_from u a.object i) c.in-Some-place.is) c.next_at.ensures.goes
