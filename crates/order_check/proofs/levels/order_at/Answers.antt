use Rattle.order_check.proofs.Lemmas.{bases-at, over-right}
use Rattle.order_check.proofs.levels.order_at.Goals as goal

pub order_over-requires-clause-class : goal.order_over-requires-clause-class
order_over-requires-clause-class c =
    bases-at c.args.entries.now c.args.place c.index-entries-place.result c.requires.keyed c.requires.inside c.index-entries-place.is

pub returns : goal.returns
returns c = (
  c.requires.inside,
  over-right c.args.entries.now c.args.known.now c.args.place c.index-entries-place.result c.in_ok-order.order c.requires c.index-entries-place.is c.in_ok-order.ensures,
)
