use Rattle.class_table.proofs.Lemmas.{empty_cached, empty-none}
use Rattle.class_table.proofs.cache.Cache.without_rows.Goals as goal

pub returns : goal.returns
returns c = λ t. empty_cached t _ (empty-none _ c.new.ensures.items)
