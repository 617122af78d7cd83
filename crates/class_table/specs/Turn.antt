-- The candidates of an operator, as they are handed out, and which slots stand in one table.
use Rattle.class_table.specs.Below.{List, [], Option, Some, None, SlotEntry}
use Rattle.std.specs.Prelude.{◌∷◌}
use Rattle.class_table.specs.declared.candidates.Candidates.{Candidates}

abbrev pub list_both : Option SlotEntry → Option SlotEntry → List SlotEntry
list_both None None = []
list_both (Some l) None = l ∷ []
list_both None (Some r) = r ∷ []
list_both (Some l) (Some r) = l ∷ r ∷ []

-- the candidates in turn
abbrev pub list_of : Candidates → List SlotEntry
list_of c = list_both c.first c.second
