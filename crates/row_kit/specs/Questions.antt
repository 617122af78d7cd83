-- What rows ask of one text: whether it has a null.
use Rattle.row_kit.specs.Below.{Bool, false, eqb, [], Text}
use Rattle.std.specs.Prelude.{◌||◌, ◌∷◌}

-- whether a text has a null character, which no name of a class has
abbrev pub has_null : Text → Bool
has_null [] = false
has_null (b ∷ bs) = eqb b 0 || has_null bs
