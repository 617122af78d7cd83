-- The classes that a text spells, each with its bases, or why it spells none.
use Rattle.order_check.specs.Below.{ℕ, List, [], length, codes, bytes_eq, Option, Some, None, is_some, option_map, ok_or, Result, Ok, Err, string_bytes, position, Data, null, boolean, number, string, array, object, Items, no_items, item, as_str, Text, ScriptError, NoCommand, Shape, json_of, of_two, texts_in}
use Rattle.std.specs.Prelude.{◌∷◌, ◌++◌, if◌then◌else◌}
use Rattle.order_check.specs.declared.hierarchy.Entry.{Entry}

-- a class as it is spelled: its name, and its bases by their names
abbrev pub Named : Type 0
Named = Text × List Text

-- a class: its key, its name, and its bases by their keys
pub record PlainClass : Type 0 where
  pub key : ℕ
  pub name : Text
  pub bases : List ℕ

-- a class as the code holds it
abbrev pub plain_class : Entry → PlainClass
plain_class e = record { key = e.key; name = string_bytes e.name; bases = e.bases.items }

-- an array of names
abbrev pub names_of : Data → Option (List Text)
names_of (array ds) = texts_in ds
names_of _ = None

abbrev pub named : Text → List Text → Named
named name bases = (name, bases)

-- a class is an array of a name and an array of names
abbrev pub parts_of : Items → Option Named
parts_of (item n (item bs no_items)) = of_two named (as_str n) (names_of bs)
parts_of _ = None

abbrev pub named_of : Data → Option Named
named_of (array ds) = parts_of ds
named_of _ = None

-- the key of a name: its place among those that were given before
abbrev pub key_of : List Text → Text → Option ℕ
key_of names name = position (bytes_eq name) names

abbrev pub keys_of : List Text → List Text → Option (List ℕ)
keys_of names [] = Some []
keys_of names (b ∷ bs) = of_two ◌∷◌ (key_of names b) (keys_of names bs)

-- a class without bases derives from the first of all
abbrev pub or_first : List ℕ → List ℕ
or_first [] = 0 ∷ []
or_first (b ∷ bs) = b ∷ bs

abbrev pub keyed : List Text → Text → List ℕ → PlainClass
keyed names name bases = record { key = length names; name = name; bases = or_first bases }

-- the class that is spelled after those with these names: its name is new, and its bases are among them
abbrev pub class_after : List Text → Named → Option PlainClass
class_after names c = if is_some (key_of names c.0) then None else option_map (keyed names c.0) (keys_of names c.1)

-- a class, and those that are spelled after it
abbrev pub and_after : List Text → Option Named → (List Text → Option (List PlainClass)) → Option (List PlainClass)
and_after names None rest = None
and_after names (Some c) rest = of_two ◌∷◌ (class_after names c) (rest (names ++ c.0 ∷ []))

-- the classes that are spelled after those with these names
unfoldable pub classes_after : List Text → Items → Option (List PlainClass)
classes_after names no_items = Some []
classes_after names (item d ds) = and_after names (named_of d) (λ more. classes_after more ds)

-- the class that stands first: it alone has no bases
abbrev pub first_class : PlainClass
first_class = record { key = 0; name = codes "object"; bases = [] }

abbrev pub with_first : List PlainClass → List PlainClass
with_first cs = first_class ∷ cs

-- at least one class beside the first
unfoldable pub classes_in : Items → Result (List PlainClass) ScriptError
classes_in no_items = Err NoCommand
classes_in (item d ds) = ok_or (option_map with_first (classes_after (codes "object" ∷ []) (item d ds))) Shape

unfoldable pub classes_of : Data → Result (List PlainClass) ScriptError
classes_of (array ds) = classes_in ds
classes_of null = Err Shape
classes_of (boolean b) = Err Shape
classes_of (number n) = Err Shape
classes_of (string s) = Err Shape
classes_of (object ms) = Err Shape

-- the refusal of the text, or what its value spells
unfoldable pub spelled_by : Result Data ScriptError → Result (List PlainClass) ScriptError
spelled_by (Err e) = Err e
spelled_by (Ok d) = classes_of d

-- the classes that the bytes spell, or the first refusal that holds
unfoldable pub hierarchy_of : List ℕ → Result (List PlainClass) ScriptError
hierarchy_of bytes = spelled_by (json_of bytes)
