-- The attributes of a class and of all along its linearisation.
use Rattle.class_model.specs.Below.{ℕ, Bool, List, [], Option, Some, None, option_map, PyObjectRef, with_value}
use Rattle.std.specs.Prelude.{◌∷◌}
use Rattle.class_model.specs.Class.{Class, Classes, class_at, lin}

-- with the values of others too, one after the other: a name that is there keeps its place
abbrev pub with_values : {K : Type 0} → (K → K → Bool) → List (K × PyObjectRef) → List (K × PyObjectRef) → List (K × PyObjectRef)
with_values same found [] = found
with_values same found (a ∷ attrs) = with_values same (with_value same found a.0 a.1) attrs

abbrev pub attrs_of : {K : Type 0} → Option (Class K) → List (K × PyObjectRef)
attrs_of None = []
attrs_of (Some k) = k.attrs

-- from the end of a line up: a later class replaces a value and keeps its place
abbrev pub attributes_along : {K : Type 0} → (K → K → Bool) → Classes K → List ℕ → List (K × PyObjectRef)
attributes_along same t [] = []
attributes_along same t (c ∷ cs) = with_values same (attributes_along same t cs) (attrs_of (class_at t c))

-- the attributes of a class, its own and those that it inherits
abbrev pub all_attributes : {K : Type 0} → (K → K → Bool) → Classes K → ℕ → Option (List (K × PyObjectRef))
all_attributes same t c = option_map (attributes_along same t) (lin t c)
