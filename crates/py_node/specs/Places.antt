-- The members of an object: what stands at the offsets of its places.
use Rattle.py_node.specs.Below.{ℕ, List, Option, None, option_and_then, replicate, slice_get}
use Rattle.py_node.specs.declared.refs.PyObjectRef.{PyObjectRef}

-- what stands at an offset, unless that place is empty. Past the last place nothing stands
abbrev pub value_at : List (Option PyObjectRef) → ℕ → Option PyObjectRef
value_at ms n = option_and_then (λ v. v) (slice_get ms n)

-- so many places, in which nothing stands
abbrev pub empty_places : ℕ → List (Option PyObjectRef)
empty_places n = replicate n None
