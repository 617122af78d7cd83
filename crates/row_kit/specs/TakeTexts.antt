-- The text that an object holds.
use Rattle.row_kit.specs.Below.{Option, Some, None, Text, Datum, AText}

-- the text that an object holds
abbrev pub text_of : Option Datum → Option Text
text_of (Some (AText x)) = Some x
text_of _ = None
