-- What a class is called.
use Rattle.class_model.specs.Below.{ℕ, cond, eqb, [], Text}
use Rattle.std.specs.Prelude.{◌∷◌}
use Rattle.class_model.specs.Class.{Class, is_heap}

-- the dot that parts names
abbrev pub dot : ℕ
dot = 46

-- the part of a name after its last dot, or all of it: what is past each dot is the part from there on
abbrev pub part_from : Text → Text → Text
part_from part [] = part
part_from part (c ∷ rest) = part_from (cond (eqb c dot) rest part) rest

abbrev pub last_part : Text → Text
last_part name = part_from name name

-- a class that a script made is called by its whole name, and any other without the parts before
abbrev pub short_name : {K : Type 0} → Class K → Text
short_name k = cond (is_heap k) k.name (last_part k.name)
