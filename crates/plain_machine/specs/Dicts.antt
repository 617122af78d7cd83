-- The dicts of objects: what stands in one under a text, and how that is set and taken out.
use Rattle.plain_machine.specs.Below.{Bool, false, cond, nat_lt, length, List, [], Option, Some, None, is_some, option_and_then, fold, int_eq, PyObjectRef, value_of, Text}
use Rattle.std.specs.Prelude.{◌||◌, ◌∷◌, ◌++◌}
use Rattle.plain_machine.specs.Plain.{Datum, AText, ADict, PlainWorld}
use Rattle.plain_machine.specs.Known.{the_str}
use Rattle.plain_machine.specs.World.{is_text, node_at, datum_at, with_node, next_node}
use Rattle.plain_machine.specs.Objects.{with_datum}
use Rattle.plain_machine.specs.Row.{most_items}
use Rattle.plain_machine.specs.Sound.{Key, NumberKey, TextKey, key_at}

abbrev pub Entries : Type 0
Entries = List (PyObjectRef × PyObjectRef)

abbrev pub is_text_datum : Text → Option Datum → Bool
is_text_datum x (Some (AText y)) = is_text y x
is_text_datum x _ = false

abbrev pub entries_in : Option Datum → Entries
entries_in (Some (ADict es)) = es
entries_in _ = []

-- the node of an object's dict
abbrev pub dict_of : PlainWorld → PyObjectRef → Option PyObjectRef
dict_of w o = option_and_then (λ n. n.dict) (node_at w o)

-- whether a key is a text
abbrev pub is_key : PlainWorld → Text → PyObjectRef → Bool
is_key w x k = is_text_datum x (datum_at w k)

-- the value that a dict has under a text
abbrev pub value_in : PlainWorld → Text → PyObjectRef → Option PyObjectRef
value_in w x d = value_of (is_key w x) (entries_in (datum_at w d))

-- whether a dict has room for one more entry, or the key
abbrev pub has_place : PlainWorld → PyObjectRef → Text → Bool
has_place w d x = nat_lt (length (entries_in (datum_at w d))) most_items || is_some (value_in w x d)

-- the value that an object's own dict has under a text
abbrev pub own_value : PlainWorld → PyObjectRef → Text → Option PyObjectRef
own_value w o x = option_and_then (value_in w x) (dict_of w o)

-- the entries with another value for the first key that passes a test
abbrev pub with_value_for : (PyObjectRef → Bool) → PyObjectRef → Entries → Entries
with_value_for test v [] = []
with_value_for test v (e ∷ es) = cond (test e.0) ((e.0, v) ∷ es) (e ∷ with_value_for test v es)

-- the entries without that of the first key that passes a test
abbrev pub without_value_for : (PyObjectRef → Bool) → Entries → Entries
without_value_for test [] = []
without_value_for test (e ∷ es) = cond (test e.0) es (e ∷ without_value_for test es)

-- a dict with other entries
abbrev pub with_entries : PlainWorld → PyObjectRef → Entries → PlainWorld
with_entries w d es = with_datum w d (ADict es)

-- a dict with a value for a text: in its place, or else last, with a new text as its key
abbrev pub set_under : PlainWorld → PyObjectRef → Text → PyObjectRef → Option PyObjectRef → PlainWorld
set_under w d x v (Some old) = with_entries w d (with_value_for (is_key w x) v (entries_in (datum_at w d)))
set_under w d x v None =
    with_entries (with_node w the_str (AText x)) d (entries_in (datum_at w d) ++ (next_node w the_str, v) ∷ [])

abbrev pub with_value_in : PlainWorld → PyObjectRef → Text → PyObjectRef → PlainWorld
with_value_in w d x v = set_under w d x v (value_in w x d)

-- a dict without its value for a text
abbrev pub without_value_in : PlainWorld → PyObjectRef → Text → PlainWorld
without_value_in w d x = with_entries w d (without_value_for (is_key w x) (entries_in (datum_at w d)))

-- whether two keys are one: numbers, or texts, that are the same
abbrev pub is_one_key : Option Key → Option Key → Bool
is_one_key (Some (NumberKey n)) (Some (NumberKey m)) = int_eq n m
is_one_key (Some (TextKey x)) (Some (TextKey y)) = is_text x y
is_one_key _ _ = false

abbrev pub is_like : PlainWorld → PyObjectRef → PyObjectRef → Bool
is_like w k j = is_one_key (key_at w j) (key_at w k)

-- entries with a value under a key. A key that is there stays, and gets the value; else the key comes last
abbrev pub put_under : (PyObjectRef → Bool) → PyObjectRef × PyObjectRef → Entries → Option PyObjectRef → Entries
put_under test e es (Some old) = with_value_for test e.1 es
put_under test e es None = es ++ e ∷ []

abbrev pub with_entry : PlainWorld → Entries → PyObjectRef × PyObjectRef → Entries
with_entry w es e = put_under (is_like w e.0) e es (value_of (is_like w e.0) es)

-- keys with their values, one after another
abbrev pub entries_from : PlainWorld → Entries → Entries
entries_from w es = fold (with_entry w) [] es
