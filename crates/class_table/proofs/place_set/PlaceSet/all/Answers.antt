use Rattle.class_table.proofs.Lemmas.{subst, Distinct, distinct-keys}
use Rattle.class_table.proofs.place_set.PlaceSet.all.Goals as goal

pub returns-clause-distinct : goal.returns-clause-distinct
returns-clause-distinct c = subst Distinct c.self.view_is (distinct-keys c.self.inside.places.keys c.len-count.ensures.unique)
