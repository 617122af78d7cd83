-- What the natives say that repeat a text, a tuple or a list by name.
use Rattle.proto_ops.specs.Below.{ℤ, List, [], Option, Some, None, Result, Ok, Err, Vec, PyObjectRef, NativeEntry, OfStr, OfTuple, OfList, Raised as Fault, ArgCount, SelfType, Datum, AList, PlainWorld, Bindings, DoIndex, PlainTask, ToNative, ToProtocol, Ended, ReadObjects, Said, Asks, Ends, datum_at, Row, end, fault, elsewhere, with_two, list_repeated, native_repeat, on_count, sequence_for, with_times, as_said, with_read, tuple_made}
use Rattle.std.specs.Prelude.{◌∷◌}
use Rattle.py_node.specs.declared.entry.StrNative.TheVariants as str
use Rattle.py_node.specs.declared.entry.TupleNative.TheVariants as tuple
use Rattle.py_node.specs.declared.entry.ListNative.TheVariants as list
use Rattle.proto_ops.specs.declared.native_repeats.kind.Repeated.{Repeated}
use Rattle.proto_ops.specs.declared.native_repeats.kind.Repeated.TheVariants as repeated

-- the natives that repeat by name
abbrev pub entry_of : Repeated → NativeEntry
entry_of repeated.Text = OfStr str.Multiply
entry_of repeated.RightText = OfStr str.RightMultiply
entry_of repeated.Tuple = OfTuple tuple.Multiply
entry_of repeated.RightTuple = OfTuple tuple.RightMultiply
entry_of repeated.List = OfList list.Multiply
entry_of repeated.RightList = OfList list.RightMultiply
entry_of repeated.ListInPlace = OfList list.InplaceMultiply

-- which of these one is, if it is one
abbrev pub kind_of : NativeEntry → Option Repeated
kind_of (OfStr str.Multiply) = Some repeated.Text
kind_of (OfStr str.RightMultiply) = Some repeated.RightText
kind_of (OfTuple tuple.Multiply) = Some repeated.Tuple
kind_of (OfTuple tuple.RightMultiply) = Some repeated.RightTuple
kind_of (OfList list.Multiply) = Some repeated.List
kind_of (OfList list.RightMultiply) = Some repeated.RightList
kind_of (OfList list.InplaceMultiply) = Some repeated.ListInPlace
kind_of _ = None

-- the items of a list, which may change meanwhile: they are read once. A text and a tuple stay as they are
abbrev pub stood : Datum → List PyObjectRef
stood (AList rs) = rs
stood d = []

-- an object of the native's kind, and the index that another one stands for is asked
abbrev pub repeat_of : PlainWorld → Option Datum → List PyObjectRef → Bindings → Said
repeat_of w None args kw = Ends w (fault SelfType)
repeat_of w (Some d) args kw = with_two w args kw (λ o k. Asks w (ReadObjects (o ∷ stood d) ∷ []) (ToProtocol (DoIndex k)))

abbrev pub repeat_by_name : PlainWorld → NativeEntry → List PyObjectRef → Bindings → Said
repeat_by_name w n [] kw = Ends w (fault ArgCount)
repeat_by_name w n (o ∷ args) kw = repeat_of w (sequence_for n (datum_at w o)) (o ∷ args) kw

-- an object is repeated, a list with the items that it had
abbrev pub list_stood : PlainWorld → NativeEntry → PyObjectRef → List PyObjectRef → ℤ → Option Datum → Said
list_stood w n o rs z (Some (AList now)) = with_times w z rs (list_repeated w n o)
list_stood w n o rs z _ = Ends w (fault SelfType)

abbrev pub repeat_stood : PlainWorld → NativeEntry → PyObjectRef → List PyObjectRef → ℤ → Said
repeat_stood w (OfList n) o rs z = list_stood w (OfList n) o rs z (datum_at w o)
repeat_stood w n o rs z = native_repeat w n o z

abbrev pub repeat_rest : PlainWorld → NativeEntry → List PyObjectRef → Ended → Row
repeat_rest w n [] r = end w r
repeat_rest w n (o ∷ rs) r = on_count w r (λ z. as_said (repeat_stood w n o rs z))

abbrev pub repeat_by_kind : PlainWorld → Option Repeated → List PyObjectRef → Bindings → Row
repeat_by_kind w None args kw = end w elsewhere
repeat_by_kind w (Some k) args kw = with_read (repeat_by_name w (entry_of k) args kw) (repeat_rest w (entry_of k))

abbrev pub repeat_native_say : PlainWorld → NativeEntry → List PyObjectRef → Bindings → Row
repeat_native_say w n args kw = repeat_by_kind w (kind_of n) args kw

-- these natives, as a group of rows
unfoldable pub repeat_job_say : PlainWorld → PlainTask → Row
repeat_job_say w (ToNative n args kw) told = repeat_native_say w n args kw told
repeat_job_say w _ told = end w elsewhere told

-- a sequence ends with these items, or as they were refused
abbrev pub made_of : PlainWorld → NativeEntry → PyObjectRef → List PyObjectRef → Said
made_of w (OfTuple n) o rs = tuple_made w rs
made_of w (OfList n) o rs = list_repeated w (OfList n) o rs
made_of w n o rs = Ends w (fault SelfType)

abbrev pub ended_with : PlainWorld → NativeEntry → PyObjectRef → Result (Vec PyObjectRef) Fault → Said
ended_with w n o (Err x) = Ends w (Err x)
ended_with w n o (Ok rs) = made_of w n o rs.items
