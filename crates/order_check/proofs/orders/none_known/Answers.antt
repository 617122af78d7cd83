use Rattle.order_check.proofs.Lemmas.{arith, sym, subst, List, Option, length-append, Vec, orders, AllNone, all_none-more}
use Rattle.order_check.proofs.orders.none_known.Goals as goal

pub loop-place-preserved : goal.loop-place-preserved
loop-place-preserved c = record {
  count = rw c.in_ok-push.ensures.items (simp length-append (omega (arith, c.loop-place.invariant.count)));
  none = let P : List (Option (Vec _)) → Type 0 = λ vs. AllNone (orders vs) in subst P (sym c.in_ok-push.ensures.items) (all_none-more c.loop-place.known.items c.loop-place.invariant.none);
}
