-- The items of lists, as they are read and as they are stored.
use Rattle.class_world.specs.Below.{List, [], Option, Some, PyObjectRef, Node, Payload, Datum, ATuple, AList}
use Rattle.std.specs.Prelude.{◌≡◌}
use Rattle.py_node.specs.declared.payload.Payload.TheVariants as payload

-- the items of a tuple or a list
abbrev pub items_in : Option Datum → List PyObjectRef
items_in (Some (ATuple rs)) = rs
items_in (Some (AList rs)) = rs
items_in _ = []

-- the items of a list as it is stored
abbrev pub items_of : Payload → List PyObjectRef
items_of (payload.List rs) = rs.items
items_of _ = []

-- a list that has these items
abbrev pub HasItems : Payload → List PyObjectRef → Type 0
HasItems (payload.List rs) xs = rs.items ≡ xs
HasItems _ xs = ⊥

-- a list that has other items, and else is the same
abbrev pub HasOtherItems : Node → Node → List PyObjectRef → Type 0
HasOtherItems old new xs = (new.class ≡ old.class) × (new.dict ≡ old.dict) × (new.members ≡ old.members) × HasItems new.payload xs
