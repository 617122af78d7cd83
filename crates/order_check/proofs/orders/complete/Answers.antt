use Rattle.order_check.proofs.Lemmas.{length, orders, found-all, orders-length}
use Rattle.order_check.proofs.orders.complete.Goals as goal

pub returns-then-not-branch-clause-all : goal.returns-then-not-branch-clause-all
returns-then-not-branch-clause-all c =
    let h = c.args.entries.now in
    let known = c.try_all.new.known.items in
    let call = c.in_ok-try_all.ensures in
    found-all h (orders known) c.requires.keyed (orders-length known (length h) call.count) call.known (call.closed c.if-not-branch.true)
