-- What the rows of lengths say.
use Rattle.proto_object.specs.Below.{ℕ, zero, suc, ℤ, pos, int_lt, Bool, true, false, cond, [], Option, Some, None, Ok, Err, option_or, PyObjectRef, Kind, TypeError, IndexRange, LengthType, NegativeLength, NoLength, SeqLength, MapLength, SlotEntry, Native, Len, LengthHint, known_text, PlainWorld, DoSpecial, DoBind, DoCall, DoLength, ToAttribute, ToCall, ToProtocol, AsNumber, AsMaybe, Ended, Said, Asks, Ends, Chose, datum_at, number_of, slot_at, native_task, special_at, type_object, Row, start, fork, ask, pass, end, fault, fits_index, is_not_implemented, on_value}
use Rattle.std.specs.Prelude.{◌∷◌}

abbrev pub as_number : ℤ → Ended
as_number z = Ok (AsNumber z)

-- a length that a method answers is a number, not below zero, and an index
abbrev pub tested : Option ℤ → Ended
tested None = fault LengthType
tested (Some z) = cond (int_lt z (pos 0)) (fault NegativeLength) (cond (fits_index z) (as_number z) (fault IndexRange))

abbrev pub length_given : PlainWorld → PyObjectRef → Row
length_given w v = end w (tested (number_of (datum_at w v)))

-- a length is given by a native, or by the special method
abbrev pub length_by : PlainWorld → Option SlotEntry → PyObjectRef → Said
length_by w None o = Ends w (fault NoLength)
length_by w (Some (Native n)) o = Asks w (Chose 0 ∷ []) (native_task n (o ∷ []) [])
length_by w (Some e) o = Asks w (Chose 1 ∷ []) (ToAttribute (DoSpecial o (known_text Len) [] []))

abbrev pub length_rest : PlainWorld → ℕ → Ended → Row
length_rest w zero r = end w r
length_rest w (suc n) r = on_value w r (length_given w)

-- the slot for the length of a sequence, or else of a mapping
abbrev pub length_slot : PlainWorld → PyObjectRef → Option SlotEntry
length_slot w o = option_or (slot_at w o SeqLength) (slot_at w o MapLength)

abbrev pub length_say : PlainWorld → PyObjectRef → Row
length_say w o = fork (length_by w (length_slot w o) o) (length_rest w)

-- a length, or what an object expects it to be, or else what is given, if anything. An object of another kind has none

abbrev pub is_type_error : Kind → Bool
is_type_error TypeError = true
is_type_error _ = false

abbrev pub or_given : Option ℤ → Ended
or_given None = Ok (AsMaybe None)
or_given (Some z) = as_number z

abbrev pub expected_by : PlainWorld → Option PyObjectRef → PyObjectRef → Option ℤ → Said
expected_by w None o d = Ends w (or_given d)
expected_by w (Some m) o d = pass w (ToAttribute (DoBind m (Some o) (type_object w o)))

-- the length that an object is, unless it is NotImplemented
abbrev pub hinted : PlainWorld → Option ℤ → PyObjectRef → Ended
hinted w d v = cond (is_not_implemented v) (or_given d) (tested (number_of (datum_at w v)))

abbrev pub expected_given : PlainWorld → Option ℤ → Ended → Row
expected_given w d (Err x) = end w (cond (is_type_error x.kind) (or_given d) (Err x))
expected_given w d r = on_value w r (λ v. end w (hinted w d v))

abbrev pub expected_say : PlainWorld → PyObjectRef → Option ℤ → Row
expected_say w o d =
    start (expected_by w (special_at w o (known_text LengthHint)) o d) (λ r. on_value w r (λ b. ask w (ToCall (DoCall b [] [])) (expected_given w d)))

abbrev pub hint_rest : PlainWorld → PyObjectRef → Option ℤ → Ended → Row
hint_rest w o d (Err x) = cond (is_type_error x.kind) (expected_say w o d) (end w (Err x))
hint_rest w o d r = end w r

abbrev pub hint_say : PlainWorld → PyObjectRef → Option ℤ → Row
hint_say w o d = ask w (ToProtocol (DoLength o)) (hint_rest w o d)
