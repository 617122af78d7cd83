-- The members of objects: what stands in a place of one, and how that is set.
use Rattle.plain_machine.specs.Below.{ℕ, Option, Some, None, option_and_then, PyObjectRef}
use Rattle.plain_machine.specs.Plain.{PlainWorld}
use Rattle.plain_machine.specs.World.{node_at}
use Rattle.plain_machine.specs.Change.{SetMember, apply}

-- what stands in a place of an object, which may be empty
abbrev pub value_at_place : PlainWorld → PyObjectRef → Option (ℕ × ℕ) → Option PyObjectRef
value_at_place w o None = None
value_at_place w o (Some p) = option_and_then (λ n. n.members p.0 p.1) (node_at w o)

-- a place of an object is set, or emptied
abbrev pub with_value_at_place : PlainWorld → PyObjectRef → Option (ℕ × ℕ) → Option PyObjectRef → PlainWorld
with_value_at_place w o None v = w
with_value_at_place w o (Some p) v = apply w (SetMember o p v)
