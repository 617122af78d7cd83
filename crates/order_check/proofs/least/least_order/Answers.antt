use Rattle.order_check.proofs.Lemmas.{Some, ap, ◌∙◌, single-order}
use Rattle.std.proofs.Common.{◌∷◌}
use Rattle.order_check.proofs.least.least_order.Goals as goal

pub returns-in-len1 : goal.returns-in-len1
returns-in-len1 c =
    ap Some (c.in_ok-prepended.ensures ∙ ap (λ l. c.args.key ∷ l) c.deref.ensures.value)
    ∙ single-order c.args.key c.args.bases.now c.args.lines.now c.line-item.result c.in-len1.len_at_least c.in-len1.len_below c.line-item.is c.requires.lines c.requires.apart
