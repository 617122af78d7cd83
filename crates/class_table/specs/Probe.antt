-- The special names, each looked for once along a linearisation.
use Rattle.class_table.specs.Below.{ℕ, Bool, cond, eqb, List, [], length, Option, Some, None, slice_get, option_and_then, SlotEntry, SlotId, Known, PyObjectRef, PyStrInterned, is_same_name, number_of, Classes, class_at, own_of, along, or_else, wrapped}
use Rattle.std.specs.Prelude.{◌≡◌, ◌<◌, ◌∷◌}
use Rattle.py_node.specs.declared.known.Known.TheVariants as known

-- how many special names there are: they have the first numbers
abbrev pub special_count : ℕ
special_count = 70

-- whether a key is the name with a number
abbrev pub is_called : ℕ → PyStrInterned → Bool
is_called n k = is_same_name k (record { 0 = n })

-- what a name finds for a class with this line: `__new__` in the class alone, another one in the first class along the line that has it
abbrev pub value_found : Classes PyStrInterned → ℕ → List ℕ → ℕ → Option PyObjectRef
value_found t c line n = cond (eqb n (number_of known.New)) (own_of (is_called n) (class_at t c)) (along (is_called n) t line)

-- what the special names find, by their numbers
pub record AreFound (t : Classes PyStrInterned) (c : ℕ) (line : List ℕ) (values : List (Option PyObjectRef)) : Type 0 where
  pub count : length values ≡ special_count
  pub at : (n : ℕ) → n < special_count → slice_get values n ≡ Some (value_found t c line n)

-- what was found for a name
abbrev pub value_at : List (Option PyObjectRef) → ℕ → Option PyObjectRef
value_at values n = option_and_then (λ v. v) (slice_get values n)

-- what a special name found, or else what is here: `__new__` is left open
pub record AreAdded (own : ℕ → Option PyObjectRef) (old new : List (Option PyObjectRef)) : Type 0 where
  pub count : length new ≡ special_count
  pub at : (n : ℕ) → n < special_count → (n ≡ number_of known.New → ⊥) → slice_get new n ≡ Some (or_else (value_at old n) (own n))

-- what they give in a slot: the first of the slot's names for which something was found
abbrev pub slot_by : List (Option PyObjectRef) → SlotId → List Known → Option SlotEntry
slot_by values s [] = None
slot_by values s (k ∷ ks) = or_else (wrapped s (value_at values (number_of k))) (slot_by values s ks)
