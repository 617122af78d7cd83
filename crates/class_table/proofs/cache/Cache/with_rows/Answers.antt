use Rattle.class_table.proofs.Lemmas.{empty_cached}
use Rattle.class_table.proofs.cache.Cache.with_rows.Goals as goal

pub returns : goal.returns
returns c = λ t. empty_cached t _ c.in_ok-rows.ensures
