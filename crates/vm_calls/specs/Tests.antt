-- What calls test before they ask a task.
use Rattle.vm_calls.specs.Below.{Bool, is_some, Index, SeqLength, MapLength, PyObjectRef, PlainWorld, datum_at, number_of, slot_at}
use Rattle.std.specs.Prelude.{◌||◌}

-- an object holds a number, or its class itself has a slot by which its objects are indices
abbrev pub has_index : PyObjectRef → PlainWorld → Bool
has_index o w = is_some (number_of (datum_at w o)) || is_some (slot_at w o Index)

-- an object's class has a slot for its length, as a sequence or as a mapping
abbrev pub has_length : PyObjectRef → PlainWorld → Bool
has_length o w = is_some (slot_at w o SeqLength) || is_some (slot_at w o MapLength)
