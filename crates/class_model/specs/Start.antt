-- The built-in classes, as they are before they get attributes.
use Rattle.class_model.specs.Below.{ℕ, List, [], Option, Some, None, map, bit_and, BuiltIn, place_of, name_of, base_of, flags_of, has_dict, all_built_ins}
use Rattle.std.specs.Prelude.{◌==◌, ◌∷◌}
use Rattle.class_model.specs.Class.{Class, Classes}

abbrev pub bases_from : Option ℕ → List ℕ
bases_from None = []
bases_from (Some b) = b ∷ []

-- a built-in class. Its number is its place. It brings a dict where its flags say so
abbrev pub built_class : {K : Type 0} → BuiltIn → Class K
built_class b = record { name = name_of b; number = place_of b; bases = bases_from (base_of b); attrs = []; members = []; flags = flags_of b; brings = bit_and (flags_of b) has_dict == has_dict }

-- all of them, in order
abbrev pub built_in_classes : {K : Type 0} → Classes K
built_in_classes = map built_class all_built_ins
