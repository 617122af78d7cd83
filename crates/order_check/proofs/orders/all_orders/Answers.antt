use Rattle.order_check.proofs.Lemmas.{orders, none-known}
use Rattle.order_check.proofs.orders.all_orders.Goals as goal

pub complete-requires-clause-known : goal.complete-requires-clause-known
complete-requires-clause-known c = none-known c.deref.result.now (orders c.in_ok-known.known.items) c.in_ok-known.ensures.none
