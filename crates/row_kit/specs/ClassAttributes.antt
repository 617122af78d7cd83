-- The names of attributes as new texts, with their values.
use Rattle.row_kit.specs.Below.{[], Option, Some, None, AText, PlainWorld, Bindings, with_node, next_node, the_str, Entries}
use Rattle.std.specs.Prelude.{◌∷◌, ◌++◌}

-- a new text for each name, in order, with its value
abbrev pub keyed : PlainWorld → Entries → Bindings → PlainWorld × Entries
keyed w es [] = (w, es)
keyed w es (b ∷ bs) = keyed (with_node w the_str (AText b.0)) (es ++ (next_node w the_str, b.1) ∷ []) bs

abbrev pub or_no_attributes : Option Bindings → Bindings
or_no_attributes None = []
or_no_attributes (Some attrs) = attrs
