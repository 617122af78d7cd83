-- How the plain world is read and changed.
use Rattle.plain_machine.specs.Below.{ℕ, zero, suc, ℤ, Bool, false, eqb, cond, List, [], Option, Some, None, length, take, slice_get, option_map, option_and_then, pointwise, PyObjectRef, SlotId, SlotEntry, value_of, with_value, known_text, Text, Started, Class, has_dict as class_has_dict, with_class, with_class_attr, Keys, slot, candidates_of, goes_first, natives_of}
use Rattle.std.specs.Prelude.{◌+◌, ◌-◌, ◌∷◌, ◌++◌}
use Rattle.plain_machine.specs.Known.{the_dict}
use Rattle.plain_machine.specs.Plain.{Datum, AClass, ADict, ANumber, no_members, Node, Bindings, Scope, PlainWorld}

-- whether two texts are one
abbrev pub is_text : Text → Text → Bool
is_text = pointwise eqb

abbrev pub or_empty : Option Text → Text
or_empty None = []
or_empty (Some x) = x

-- the plain world's classes name their attributes by texts
abbrev pub text_keys : Keys Text
text_keys = record { same = is_text; special = known_text }

-- a node by its number
abbrev pub ref : ℕ → PyObjectRef
ref n = record { 0 = n }

abbrev pub node_at : PlainWorld → PyObjectRef → Option Node
node_at w r = slice_get w.nodes r.0

abbrev pub datum_at : PlainWorld → PyObjectRef → Option Datum
datum_at w r = option_map (λ n. n.datum) (node_at w r)

abbrev pub class_at : PlainWorld → PyObjectRef → Option ℕ
class_at w r = option_map (λ n. n.class) (node_at w r)

-- the number that a node holds
abbrev pub number_of : Option Datum → Option ℤ
number_of (Some (ANumber z)) = Some z
number_of _ = None

-- a slot as it is read for an object's class
abbrev pub slot_at : PlainWorld → PyObjectRef → SlotId → Option SlotEntry
slot_at w r s = option_and_then (λ c. slot text_keys natives_of w.classes c s) (class_at w r)

-- the candidates of an operator, for two objects
abbrev pub candidates_at : PlainWorld → SlotId → SlotId → Option ℕ → Option ℕ → List SlotEntry
candidates_at w left right None d = []
candidates_at w left right (Some c) None = []
candidates_at w left right (Some c) (Some d) = candidates_of text_keys natives_of w.classes left right c d

-- whether the right one is tried first
abbrev pub goes_first_at : PlainWorld → SlotId → Option ℕ → Option ℕ → Bool
goes_first_at w right None d = false
goes_first_at w right (Some c) None = false
goes_first_at w right (Some c) (Some d) = goes_first text_keys w.classes right c d

-- how it is changed

-- whether a class gives its objects a dict, which its flags say
abbrev pub has_dict : PlainWorld → ℕ → Bool
has_dict w c = class_has_dict w.classes c

abbrev pub push_node : PlainWorld → ℕ → Option PyObjectRef → Datum → PlainWorld
push_node w c dict d = record w { nodes = w.nodes ++ record { class = c; dict = dict; members = no_members; datum = d } ∷ [] }

-- a new node, after its dict where its class gives it one
abbrev pub with_node : PlainWorld → ℕ → Datum → PlainWorld
with_node w c d =
    cond (has_dict w c) (push_node (push_node w the_dict None (ADict [])) c (Some (ref (length w.nodes))) d) (push_node w c None d)

-- the number that the new node gets
abbrev pub next_node : PlainWorld → ℕ → PyObjectRef
next_node w c = ref (cond (has_dict w c) (length w.nodes + 1) (length w.nodes))

-- one node changed
abbrev pub with_node_changed : (Node → Node) → List Node → ℕ → List Node
with_node_changed f [] n = []
with_node_changed f (m ∷ ms) zero = f m ∷ ms
with_node_changed f (m ∷ ms) (suc n) = m ∷ with_node_changed f ms n

-- a variable of the running body, or else of the machine, is bound
abbrev pub bound : List Scope → Bindings → Text → PyObjectRef → Bindings
bound [] vars x r = with_value is_text vars x r
bound (s ∷ ss) vars x r = vars

-- the last of some scopes gets a variable
abbrev pub bound_last : List Scope → Text → PyObjectRef → List Scope
bound_last [] x r = []
bound_last (s ∷ []) x r = record s { vars = with_value is_text s.vars x r } ∷ []
bound_last (s ∷ (u ∷ ss)) x r = s ∷ bound_last (u ∷ ss) x r

abbrev pub with_binding : PlainWorld → Text → PyObjectRef → PlainWorld
with_binding w x r = record w { vars = bound w.scopes w.vars x r; scopes = bound_last w.scopes x r }

-- a body begins, and its start is noted
abbrev pub with_scope : PlainWorld → Scope → Started → PlainWorld
with_scope w s start = record w { scopes = w.scopes ++ s ∷ []; calls = w.calls ++ start ∷ [] }

-- the last body's scope is taken away
abbrev pub without_scope : PlainWorld → PlainWorld
without_scope w = record w { scopes = take (length w.scopes - 1) w.scopes }

-- an own attribute of a class is set
abbrev pub with_own_attr : PlainWorld → ℕ → Text → PyObjectRef → PlainWorld
with_own_attr w c x r = record w { classes = with_class_attr is_text w.classes c x r }

-- a new class, whose number is that of its node, which comes last. The node has no dict
abbrev pub with_new_class : PlainWorld → ℕ → Class Text → PlainWorld
with_new_class w meta k = record (push_node w meta None (AClass k.number)) { classes = with_class w.classes k }

-- all bodies but the first so many are over: their scopes are taken away
abbrev pub at_depth : ℕ → PlainWorld → PlainWorld
at_depth n w = record w { scopes = take n w.scopes }

-- no start is noted
abbrev pub without_calls : PlainWorld → PlainWorld
without_calls w = record w { calls = [] }

-- a variable, in the running body or else in the machine
abbrev pub in_last : List Scope → Text → Option PyObjectRef
in_last [] x = None
in_last (s ∷ []) x = value_of (λ y. is_text y x) s.vars
in_last (s ∷ (u ∷ ss)) x = in_last (u ∷ ss) x

abbrev pub or_else_var : Option PyObjectRef → Option PyObjectRef → Option PyObjectRef
or_else_var None other = other
or_else_var (Some r) other = Some r

abbrev pub variable : PlainWorld → Text → Option PyObjectRef
variable w x = or_else_var (in_last w.scopes x) (value_of (λ y. is_text y x) w.vars)
