use Rattle.order_check.proofs.Lemmas.{rules, filter_same}
use Rattle.order_check.proofs.left.remove.Goals as goal

pub returns : goal.returns
returns c = filter_same _ _ _ (λ x b f' k. search rules) _ _ c.retain.ensures.filtered
