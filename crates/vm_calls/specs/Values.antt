-- What a host takes from an object.
use Rattle.vm_calls.specs.Below.{Option, Some, None, Text, Datum, AText}

-- the text that an object holds, where it holds one
abbrev pub text_of : Option Datum → Option Text
text_of (Some (AText x)) = Some x
text_of _ = None
