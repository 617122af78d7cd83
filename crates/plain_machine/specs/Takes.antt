-- What a native takes: so many arguments and no keyword, in the one order in which that is tested.
use Rattle.plain_machine.specs.Below.{List, [], Option, Some, Ok, PyObjectRef, ArgCount, SelfType, UnexpectedKeyword, Text}
use Rattle.std.specs.Prelude.{◌∷◌}
use Rattle.plain_machine.specs.Plain.{Datum, AText, ANumber, PlainWorld, Bindings, AsDone, AsNumber, Ended, Said, Ends}
use Rattle.plain_machine.specs.Known.{the_int}
use Rattle.plain_machine.specs.World.{datum_at}
use Rattle.plain_machine.specs.Row.{Row, end, make, value, none, fault}

abbrev pub without_keywords : PlainWorld → Bindings → Said → Said
without_keywords w [] go = go
without_keywords w (k ∷ kw) go = Ends w (fault UnexpectedKeyword)

-- the object alone
abbrev pub with_one : PlainWorld → List PyObjectRef → Bindings → (PyObjectRef → Said) → Said
with_one w (o ∷ []) kw go = without_keywords w kw (go o)
with_one w _ kw go = Ends w (fault ArgCount)

-- the object and one argument
abbrev pub with_two : PlainWorld → List PyObjectRef → Bindings → (PyObjectRef → PyObjectRef → Said) → Said
with_two w (o ∷ a ∷ []) kw go = without_keywords w kw (go o a)
with_two w _ kw go = Ends w (fault ArgCount)

-- the object and two arguments
abbrev pub with_three : PlainWorld → List PyObjectRef → Bindings → (PyObjectRef → PyObjectRef → PyObjectRef → Said) → Said
with_three w (o ∷ a ∷ b ∷ []) kw go = without_keywords w kw (go o a b)
with_three w _ kw go = Ends w (fault ArgCount)

-- an argument that must be a text
abbrev pub text_in : PlainWorld → Option Datum → (Text → Said) → Said
text_in w (Some (AText x)) go = go x
text_in w _ go = Ends w (fault SelfType)

abbrev pub with_text : PlainWorld → PyObjectRef → (Text → Said) → Said
with_text w a go = text_in w (datum_at w a) go

-- a native that asked a task which gives no object answers None
abbrev pub native_end : PlainWorld → Ended → Row
native_end w (Ok AsDone) = end w (value none)
native_end w r = end w r

-- a native that is called by name, or by which an attribute is read, gives an object: of a number it tells, a new one
abbrev pub named_end : PlainWorld → Ended → Row
named_end w (Ok (AsNumber z)) = make w the_int (ANumber z)
named_end w r = native_end w r
