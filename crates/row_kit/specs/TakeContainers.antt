-- Tuples, lists, dicts and iterators: whether an object is one, and what it holds.
use Rattle.row_kit.specs.Below.{Bool, true, false, List, Option, Some, PyObjectRef, BuiltIn, Entries, entries_in, Datum, ATuple, AList, ADict, AnIterator, PlainWorld, datum_at, items_in}
use Rattle.py_node.specs.declared.built_in.BuiltIn.TheVariants as built_in
use Rattle.row_kit.specs.declared.take_containers.Kind.{Kind}
use Rattle.row_kit.specs.declared.take_containers.Kind.TheVariants as kind

-- whether an object is of a kind, by what it holds
abbrev pub is_of : Kind → Option Datum → Bool
is_of kind.Tuple (Some (ATuple rs)) = true
is_of kind.List (Some (AList rs)) = true
is_of kind.Dict (Some (ADict es)) = true
is_of kind.Iterator (Some (AnIterator i)) = true
is_of _ _ = false

-- the built-in class whose objects are of a kind
abbrev pub home_of_kind : Kind → BuiltIn
home_of_kind kind.Tuple = built_in.Tuple
home_of_kind kind.List = built_in.List
home_of_kind kind.Dict = built_in.Dict
home_of_kind kind.Iterator = built_in.Iterator

-- the items of a tuple or a list
abbrev pub items_at : PlainWorld → PyObjectRef → List PyObjectRef
items_at w o = items_in (datum_at w o)

-- the entries of a dict
abbrev pub entries_at : PlainWorld → PyObjectRef → Entries
entries_at w d = entries_in (datum_at w d)
