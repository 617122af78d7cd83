-- Names with values, in the order in which the names came.
use Rattle.py_node.specs.Below.{Bool, cond, eqb, List, [], Option, Some, None, IsDistinct, keys_of}
use Rattle.std.specs.Prelude.{◌∷◌}
use Rattle.py_node.specs.declared.refs.PyStrInterned.{PyStrInterned}

-- the value of the first name that passes the test
abbrev pub value_of : {K V : Type 0} → (K → Bool) → List (K × V) → Option V
value_of test [] = None
value_of test (a ∷ attrs) = cond (test a.0) (Some a.1) (value_of test attrs)

-- the names with a value for one of them: in its place, or at the end
abbrev pub with_value : {K V : Type 0} → (K → K → Bool) → List (K × V) → K → V → List (K × V)
with_value same [] n v = (n, v) ∷ []
with_value same (a ∷ attrs) n v = cond (same a.0 n) ((a.0, v) ∷ attrs) (a ∷ with_value same attrs n v)

-- what stands under another name than this one
abbrev pub without_key : {K V : Type 0} → (K → K → Bool) → List (K × V) → K → List (K × V)
without_key same [] n = []
without_key same (a ∷ attrs) n = cond (same a.0 n) (without_key same attrs n) (a ∷ without_key same attrs n)

-- whether two names have one number
abbrev pub is_same_name : PyStrInterned → PyStrInterned → Bool
is_same_name a b = eqb a.0 b.0

-- no name stands twice
abbrev pub AreNamesDistinct : {V : Type 0} → List (PyStrInterned × V) → Type 0
AreNamesDistinct attrs = IsDistinct is_same_name (keys_of attrs)
