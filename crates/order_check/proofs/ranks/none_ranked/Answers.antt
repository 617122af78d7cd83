use Rattle.order_check.proofs.Lemmas.{arith, length-append, unknown-push}
use Rattle.order_check.proofs.ranks.none_ranked.Goals as goal

pub loop-place-preserved : goal.loop-place-preserved
loop-place-preserved c = record {
  count = rw c.in_ok-push.ensures.items (simp length-append (omega (arith, c.loop-place.invariant.count)));
  none = rw c.in_ok-push.ensures.items (omega (arith, unknown-push c.loop-place.ranks.items, c.loop-place.invariant.none));
}
