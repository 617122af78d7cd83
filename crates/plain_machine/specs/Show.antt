-- The text of an object, as replies show it.
use Rattle.plain_machine.specs.Below.{ℕ, zero, suc, List, [], codes, map, take, drop, Option, Some, None, signed_decimal, PyObjectRef, fixed_none, fixed_not_implemented, fixed_false, fixed_true, Text, class_at as class_numbered, short_name}
use Rattle.std.specs.Prelude.{◌∷◌, ◌++◌, if◌then◌else◌, ◌==◌}
use Rattle.plain_machine.specs.Escapes.{escaped, quoted}
use Rattle.plain_machine.specs.Lines.{joined}
use Rattle.plain_machine.specs.Plain.{Datum, AClass, ANumber, AText, ATuple, AList, ADict, Node, PlainWorld}
use Rattle.plain_machine.specs.World.{node_at}

-- the name of a class, escaped
abbrev pub class_name : PlainWorld → ℕ → Text
class_name w c = elim (class_numbered w.classes c) [ None ↦ [] | Some k ↦ escaped (short_name k) ]

-- an object of no class that has a text of its own
abbrev pub plain_text : PlainWorld → ℕ → Text
plain_text w c = codes "<" ++ class_name w c ++ codes " object>"

-- the fixed objects
abbrev pub fixed_text : ℕ → Option Text
fixed_text n = if n == fixed_none then Some (codes "None") else if n == fixed_not_implemented then Some (codes "NotImplemented") else if n == fixed_false then Some (codes "False") else if n == fixed_true then Some (codes "True") else None

-- what is not shown
abbrev pub dots : Text
dots = codes "..."

abbrev pub rest_text : {A : Type 0} → List A → List Text
rest_text [] = []
rest_text (x ∷ xs) = dots ∷ []

-- the texts of a container's items: of the first twenty, and dots in place of the rest
abbrev pub item_texts : {A : Type 0} → (A → Text) → List A → List Text
item_texts text xs = map text (take 20 xs) ++ rest_text (drop 20 xs)

-- a key with its value
abbrev pub entry_text : (PyObjectRef → Text) → PyObjectRef × PyObjectRef → Text
entry_text text e = text e.0 ++ codes ": " ++ text e.1

-- after an only item comes a comma
abbrev pub tuple_end : List Text → Text
tuple_end (x ∷ []) = codes ",)"
tuple_end xs = codes ")"

abbrev pub tuple_text : List Text → Text
tuple_text xs = codes "(" ++ joined (codes ", ") xs ++ tuple_end xs

abbrev pub list_text : List Text → Text
list_text xs = codes "[" ++ joined (codes ", ") xs ++ codes "]"

abbrev pub dict_text : List Text → Text
dict_text xs = codes "{" ++ joined (codes ", ") xs ++ codes "}"

-- how containers are shown, by what they contain
pub record Containers : Type 0 where
  pub tuple : List PyObjectRef → Text
  pub list : List PyObjectRef → Text
  pub dict : List (PyObjectRef × PyObjectRef) → Text

-- dots, also for a container of nothing
abbrev pub hidden : Containers
hidden = record { tuple = λ rs. dots; list = λ rs. dots; dict = λ es. dots }

-- each item has this text
abbrev pub opened : (PyObjectRef → Text) → Containers
opened text = record {
  tuple = λ rs. tuple_text (item_texts text rs);
  list = λ rs. list_text (item_texts text rs);
  dict = λ es. dict_text (item_texts (entry_text text) es);
}

-- exact ints and texts, exact tuples, lists and dicts, and classes
abbrev pub datum_text : Containers → PlainWorld → ℕ → Datum → Text
datum_text shown w c (ANumber z) = if c == 4 then signed_decimal z else plain_text w c
datum_text shown w c (AText x) = if c == 6 then quoted x else plain_text w c
datum_text shown w c (ATuple rs) = if c == 7 then shown.tuple rs else plain_text w c
datum_text shown w c (AList rs) = if c == 8 then shown.list rs else plain_text w c
datum_text shown w c (ADict es) = if c == 9 then shown.dict es else plain_text w c
datum_text shown w c (AClass d) = codes "<class '" ++ class_name w d ++ codes "'>"
datum_text shown w c _ = plain_text w c

abbrev pub node_text : Containers → PlainWorld → Option Node → Text
node_text shown w None = []
node_text shown w (Some n) = datum_text shown w n.class n.datum

abbrev pub or_text : Option Text → Text → Text
or_text None other = other
or_text (Some x) other = x

abbrev pub object_text : Containers → PlainWorld → PyObjectRef → Text
object_text shown w r = or_text (fixed_text r.0) (node_text shown w (node_at w r))

-- where containers are shown so many deep: the items of one are shown one less deep
abbrev pub containers : ℕ → PlainWorld → Containers
containers zero w = hidden
containers (suc n) w = opened (object_text (containers n w) w)

-- the text of an object, where containers are shown so many deep
abbrev pub text_within : ℕ → PlainWorld → PyObjectRef → Text
text_within n w r = object_text (containers n w) w r

-- the text of an object: containers inside three containers are not shown
unfoldable pub show : PlainWorld → PyObjectRef → Text
show w r = text_within 3 w r
