use Rattle.order_check.proofs.Lemmas.{ℕ, List, sym, ap, ◌∙◌, Vec, first_free, rows, left, struck-fewer, left-end, left-step}
use Rattle.std.proofs.Common.{◌≡◌}
use Rattle.order_check.proofs.left.left.Goals as goal

free_at : (xs ys : List (Vec ℕ)) → xs ≡ ys → first_free (rows xs) (rows xs) ≡ first_free (rows ys) (rows ys)
free_at xs ys e = ap (λ (zs : List (Vec ℕ)). first_free (rows zs) (rows zs)) e

pub loop-next-smaller : goal.loop-next-smaller
loop-next-smaller c =
    let some = sym (c.in-Some.ensures ∙ free_at _ _ c.deref.ensures.value) in
    let fewer = struck-fewer c.in-Some.next (rows c.loop-next.rest.items) some in
    rw c.strike.ensures fewer

pub loop-next-preserved : goal.loop-next-preserved
loop-next-preserved c =
    let some = sym (c.in-Some.ensures ∙ free_at _ _ c.deref.ensures.value) in
    ap left c.strike.ensures ∙ sym (left-step (rows c.loop-next.rest.items) c.in-Some.next some) ∙ c.loop-next.invariant

pub returns : goal.returns
returns c =
    let none = free_at _ _ (sym c.deref.ensures.value) ∙ sym c.first_free.ensures ∙ c.in_default.is in
    sym (left-end (rows c.loop-next.rest.items) none) ∙ c.loop-next.invariant
