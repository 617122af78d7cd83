-- The entries of dicts as they are stored.
use Rattle.class_world.specs.Below.{Bool, false, List, [], map, Option, Some, None, slice_get, string_bytes, PyObjectRef, PyStrInterned, Node, Payload, PlainDict, empty_dict, Text, is_text, or_empty}
use Rattle.std.specs.Prelude.{◌≡◌, ◌∷◌}
use Rattle.py_node.specs.declared.payload.Payload.TheVariants as payload
use Rattle.plain_machine.specs.Dicts.{Entries}
use Rattle.class_world.specs.Held.{Held}
use Rattle.class_world.specs.Sound.{Claim, AreNodes, CanBeKeys, KeysDiffer, KeysRead}

-- the dict that a payload is
abbrev pub dict_in : Payload → PlainDict
dict_in (payload.Dict es) = es
dict_in _ = empty_dict

abbrev pub dict_at : Option Node → PlainDict
dict_at None = empty_dict
dict_at (Some n) = dict_in n.payload

-- a dict of the world
abbrev pub held_dict : List Node → PyObjectRef → PlainDict
held_dict ns r = dict_at (slice_get ns r.0)

-- the entries of a dict
abbrev pub entries_of : Payload → Entries
entries_of p = (dict_in p).items

abbrev pub entries_at : Option Node → Entries
entries_at o = (dict_at o).items

abbrev pub held_entries : List Node → PyObjectRef → Entries
held_entries ns r = (held_dict ns r).items

-- what is said of entries
abbrev pub of_entries : Entries → List Claim
of_entries es = AreNodes (map (λ e. e.0) es) ∷ AreNodes (map (λ e. e.1) es) ∷ KeysDiffer (map (λ e. e.0) es) ∷ []

-- what is said of a dict
abbrev pub of_keyed : PlainDict → List Claim
of_keyed d = KeysRead d.keys (map (λ e. e.0) d.items) ∷ of_entries d.items

-- what is said of keys with their values, where keys may be alike
abbrev pub of_pairs : Entries → List Claim
of_pairs es = AreNodes (map (λ e. e.0) es) ∷ AreNodes (map (λ e. e.1) es) ∷ CanBeKeys (map (λ e. e.0) es) ∷ []

abbrev pub is_text_of : Text → Payload → Bool
is_text_of x (payload.Text s) = is_text (string_bytes s) x
is_text_of x _ = false

abbrev pub is_text_at : Text → Option Node → Bool
is_text_at x None = false
is_text_at x (Some n) = is_text_of x n.payload

-- whether a key is a text
abbrev pub is_held_key : List Node → Text → PyObjectRef → Bool
is_held_key ns x r = is_text_at x (slice_get ns r.0)

-- the text of a name
abbrev pub held_text : Held → PyStrInterned → Text
held_text w x = or_empty (slice_get w.names x.0)

-- this dict
abbrev pub IsDict : Payload → PlainDict → Type 0
IsDict (payload.Dict es) d = es ≡ d
IsDict _ d = ⊥

-- a dict that has other entries, and else is the same
abbrev pub HasOther : Node → Node → PlainDict → Type 0
HasOther old new d = (new.class ≡ old.class) × (new.dict ≡ old.dict) × (new.members ≡ old.members) × IsDict new.payload d
