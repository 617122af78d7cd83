-- Dicts: their keys, and beside each its object and its value, in the order in which the keys came.
use Rattle.py_node.specs.Below.{ℕ, Bool, false, eqb, Box, List, [], None, Option, Some, take, drop, remove, int_eq}
use Rattle.std.specs.Prelude.{◌∷◌, ◌++◌}
use Rattle.py_node.specs.declared.refs.PyObjectRef.{PyObjectRef}
use Rattle.py_node.specs.declared.dict.PyDictKey.{PyDictKey}
use Rattle.py_node.specs.declared.dict.PyDictKey.TheVariants as key

pub record PlainDict : Type 0 where
  pub keys : List PyDictKey
  pub items : List (PyObjectRef × PyObjectRef)

abbrev pub empty_dict : PlainDict
empty_dict = record { keys = []; items = [] }

-- what a dict holds whose keys stand in a box, if it has had any
abbrev pub filled_or_empty : Option (Box PlainDict) → PlainDict
filled_or_empty None = empty_dict
filled_or_empty (Some b) = b.value

-- whether two keys are one: the same number, or the same text
abbrev pub is_same_key : PyDictKey → PyDictKey → Bool
is_same_key (key.Number n) (key.Number m) = int_eq n m
is_same_key (key.Text x) (key.Text y) = eqb x.0 y.0
is_same_key _ _ = false

abbrev pub put_first : List (PyObjectRef × PyObjectRef) → PyObjectRef → List (PyObjectRef × PyObjectRef)
put_first [] v = []
put_first (e ∷ es) v = (e.0, v) ∷ es

-- the key at a place has another value
abbrev pub put_at : List (PyObjectRef × PyObjectRef) → ℕ → PyObjectRef → List (PyObjectRef × PyObjectRef)
put_at es n v = take n es ++ put_first (drop n es) v

-- a dict with another value for the key at a place, with one more key, and without the key at a place
abbrev pub dict_put : PlainDict → ℕ → PyObjectRef → PlainDict
dict_put d n v = record { keys = d.keys; items = put_at d.items n v }

abbrev pub dict_pushed : PlainDict → PyDictKey → PyObjectRef → PyObjectRef → PlainDict
dict_pushed d k o v = record { keys = d.keys ++ k ∷ []; items = d.items ++ (o, v) ∷ [] }

abbrev pub dict_removed : PlainDict → ℕ → PlainDict
dict_removed d n = record { keys = remove d.keys n; items = remove d.items n }
