use Rattle.order_check.proofs.Lemmas.{Some, sym, ap, ◌∙◌, orders, known-none, items_of, orders-known}
use Rattle.order_check.proofs.known.known_order.Goals as goal

pub returns-in-None-clause-none : goal.returns-in-None-clause-none
returns-in-None-clause-none c = known-none c.args.entries.now (orders c.args.known.now) c.args.key c.in-None.ensures

pub returns-in-None-known-clause-none : goal.returns-in-None-known-clause-none
returns-in-None-known-clause-none c =
    orders-known c.args.entries.now c.args.known.now c.in-Some.place c.args.key c.index-known-place.result c.requires.keyed c.requires.count c.in-Some.ensures.0 c.in-Some.ensures.1 c.index-known-place.is
    ∙ ap items_of c.in-None-known.is

pub returns-in-Some-known-clause-some : goal.returns-in-Some-known-clause-some
returns-in-Some-known-clause-some c =
    orders-known c.args.entries.now c.args.known.now c.in-Some.place c.args.key c.index-known-place.result c.requires.keyed c.requires.count c.in-Some.ensures.0 c.in-Some.ensures.1 c.index-known-place.is
    ∙ ap items_of c.in-Some-known.is
    ∙ ap Some (sym c.deref.ensures.value)
