-- The tables of sequences and mappings.
use Rattle.class_table.specs.Below.{Bool, false, cond, is_some, List, [], Option, SlotEntry, SlotId, Sort, BySequence, ByMapping}
use Rattle.std.specs.Prelude.{◌||◌, ◌∷◌}

abbrev pub table_sort : Bool → Sort
table_sort mapping = cond mapping ByMapping BySequence

-- whether any of some slots is filled
abbrev pub any_filled : (SlotId → Option SlotEntry) → List SlotId → Bool
any_filled own [] = false
any_filled own (s ∷ ss) = is_some (own s) || any_filled own ss
