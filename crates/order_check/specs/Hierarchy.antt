-- The classes of a hierarchy, and their linearisations.
use Rattle.order_check.specs.Below.{ℕ, false, cond, eqb, List, [], map, take, Option, Some, option_map, slice_get, string_bytes, Vec, Includes, Distinct, Class, Classes, lin}
use Rattle.std.specs.Prelude.{◌≡◌, ◌∷◌}
use Rattle.order_check.specs.declared.hierarchy.Entry.{Entry}

-- an entry as a class. Of a class its number and its bases alone make its linearisation
abbrev pub class_of : Entry → Class ℕ
class_of e = record { name = []; number = e.key; bases = e.bases.items; attrs = []; members = []; flags = 0; brings = false }

abbrev pub classes : List Entry → Classes ℕ
classes h = map class_of h

-- the linearisation of the class with a key. There is none where a base is missing, where bases go round, or where no order exists
abbrev pub order_in : List Entry → ℕ → Option (List ℕ)
order_in h c = lin (classes h) c

abbrev pub keys_of : List Entry → List ℕ
keys_of h = map (λ e. e.key) h

-- the name of the class with a key, and nothing where there is none
abbrev pub name_in : List Entry → ℕ → List ℕ
name_in [] c = []
name_in (e ∷ h) c = cond (eqb e.key c) (string_bytes e.name) (name_in h c)

-- no two entries have one key
abbrev pub AreKeyed : List Entry → Type 0
AreKeyed h = Distinct (keys_of h)

-- the linearisation of each class, as the code holds it
abbrev pub orders : List (Option (Vec ℕ)) → List (Option (List ℕ))
orders os = map (option_map (λ v. v.items)) os

abbrev pub all_orders : List Entry → List (Option (List ℕ))
all_orders h = map (λ e. order_in h e.key) h

-- no two entries have one key, and each base is that of an earlier entry (so the first has no base)
pub record IsInOrder (h : List Entry) : Type 0 where
  pub keyed : AreKeyed h
  pub earlier : (k : ℕ) (e : Entry) (b : ℕ) → slice_get h k ≡ Some e → Includes e.bases.items b → Includes (take k (keys_of h)) b
