-- Objects as they are put into the world, with their dicts.
use Rattle.class_world.specs.Below.{ℕ, List, [], Option, Some, None, length, PyObjectRef, PyTypeRef, Node, Payload, PyStrInterned, empty_dict, value_at, Classes, place_count, the_dict, ref}
use Rattle.std.specs.Prelude.{◌≡◌, ◌+◌, ◌∷◌, ◌++◌}
use Rattle.py_node.specs.declared.payload.Payload.TheVariants as payload

-- the places of a new object of a class: as many as the class gives, and nothing in them
abbrev pub AreEmpty : Classes PyStrInterned → ℕ → List (Option PyObjectRef) → Type 0
AreEmpty t c ms = (place_count t c ≡ Some (length ms)) × ((n : ℕ) → value_at ms n ≡ None)

-- an object with these places, after the node that is its dict
abbrev pub with_object : List Node → Option Node → PyTypeRef → List (Option PyObjectRef) → Payload → List Node
with_object ns None c ms p = ns ++ record { class = c; dict = None; members = ms; payload = p } ∷ []
with_object ns (Some d) c ms p = (ns ++ d ∷ []) ++ record { class = c; dict = Some (ref (length ns)); members = ms; payload = p } ∷ []

-- the number of the object
abbrev pub number_of_object : List Node → Option Node → PyObjectRef
number_of_object ns None = ref (length ns)
number_of_object ns (Some d) = ref (length ns + 1)

abbrev pub HasNoEntries : Payload → Type 0
HasNoEntries (payload.Dict es) = es ≡ empty_dict
HasNoEntries _ = ⊥

-- a new dict
abbrev pub IsEmptyDict : Classes PyStrInterned → Node → Type 0
IsEmptyDict t d = (d.class.0 ≡ the_dict) × (d.dict ≡ None) × AreEmpty t d.class.0 d.members × HasNoEntries d.payload
