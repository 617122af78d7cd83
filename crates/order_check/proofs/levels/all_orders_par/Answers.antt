use Rattle.order_check.proofs.Lemmas.{arith, orders, none-known}
use Rattle.order_check.proofs.levels.all_orders_par.Goals as goal

pub loop-places-init : goal.loop-places-init
loop-places-init g c = record {
  count = omega (arith, c.in_ok-known.ensures.count);
  known = none-known c.as_slice-entries.result.now (orders c.in_ok-known.known.items) c.in_ok-known.ensures.none;
  places = c.in_ok-places.ensures;
}
