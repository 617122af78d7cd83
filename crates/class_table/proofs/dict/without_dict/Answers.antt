use Rattle.class_table.proofs.Lemmas.{rules, filter_same}
use Rattle.class_table.proofs.dict.without_dict.Goals as goal

pub returns : goal.returns
returns c = filter_same _ _ _ (λ x b f' k. search rules) _ _ c.retain.ensures.filtered
