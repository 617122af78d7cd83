-- Classes that scripts make.
use Rattle.class_world.specs.Below.{option_or, ℕ, Bool, true, false, cond, List, [], map, Option, Some, None, option_map, Vec, Cause, QualnameType, PyObjectRef, PyStrInterned, PyTypeRef, value_of, Node, Text, refused_bases, Qualname, known_text, Datum, AText, Bindings, PlainWorld, is_text, datum_at, Classes}
use Rattle.std.specs.Prelude.{◌≡◌, ◌∷◌, ◌++◌}
use Rattle.py_node.specs.declared.payload.Payload.TheVariants as payload
use Rattle.class_world.specs.Added.{AreEmpty}
use Rattle.class_world.specs.Reading.{Reading, spelled}
use Rattle.class_world.specs.Sound.{Claim, AreNames}

-- whether an object holds a text
abbrev pub holds_text : Option Datum → Bool
holds_text (Some (AText x)) = true
holds_text _ = false

-- the qualified name that attributes give
abbrev pub qualified : Bindings → Option PyObjectRef
qualified attrs = value_of (λ y. is_text y (known_text Qualname)) attrs

-- why a class may not have a qualified name
abbrev pub refused_name : PlainWorld → Option PyObjectRef → Option Cause
refused_name w None = None
refused_name w (Some r) = cond (holds_text (datum_at w r)) None (Some QualnameType)

-- why a script may not make a class: its bases are refused, or its qualified name is no text
abbrev pub refused_heap : PlainWorld → List ℕ → Bindings → Option Cause
refused_heap w bases attrs = option_or (refused_bases w.classes bases) (refused_name w (qualified attrs))

-- what `__slots__` name, read as texts, where a class has some
abbrev pub slot_texts : Reading → Option (Vec PyStrInterned) → Option (List Text)
slot_texts t slots = option_map (λ v. map (spelled t) v.items) slots

-- they are names
abbrev pub of_slots : Option (Vec PyStrInterned) → List Claim
of_slots None = []
of_slots (Some v) = AreNames v.items ∷ []

-- the node that stands for a class, by its metaclass, its places and its number
abbrev pub class_node : PyTypeRef → List (Option PyObjectRef) → PyTypeRef → Node
class_node meta ms c = record { class = meta; dict = None; members = ms; payload = payload.Class c }

-- it comes last, and nothing stands in the places that its metaclass gives it
abbrev pub HasClassNode : Classes PyStrInterned → List Node → List Node → PyTypeRef → PyTypeRef → Type 0
HasClassNode t old new meta c = (ms : List (Option PyObjectRef)) × AreEmpty t meta.0 ms × (new ≡ old ++ class_node meta ms c ∷ [])
