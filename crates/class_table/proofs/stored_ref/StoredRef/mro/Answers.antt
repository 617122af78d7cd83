use Rattle.class_table.proofs.Lemmas.{[], ap, ◌∙◌, StoredClass}
use Rattle.class_table.proofs.stored_ref.StoredRef.mro.Goals as goal

pub at-requires : goal.at-requires
at-requires c = c.self.invariant

pub returns : goal.returns
returns c = c.at.ensures [] ∙ ap (λ (k : StoredClass). k.mro) c.self.view_is
