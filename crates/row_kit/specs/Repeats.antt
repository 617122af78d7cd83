-- How often a sequence is repeated, and what it is then.
use Rattle.row_kit.specs.Below.{ℕ, ℤ, pos, negsuc, cond, nat_le, length, List, Option, Some, None, repeat, PyObjectRef, RepeatTooLong, SelfType, TooLong, InplaceMultiply, NativeEntry, OfStr, OfTuple, OfList, Datum, AText, ATuple, AList, PlainWorld, Ended, Said, Ends, datum_at, the_str, the_tuple, the_list, with_datum, Row, value, fault, most_items, on_index}
use Rattle.std.specs.Prelude.{◌*◌}
use Rattle.row_kit.specs.Say.{object_made}

-- a number that tells how often is an index
abbrev pub on_count : PlainWorld → Ended → (ℤ → Row) → Row
on_count w r go = on_index w RepeatTooLong r go

-- what a native repeats: what an object holds, where it is of the native's kind
abbrev pub sequence_for : NativeEntry → Option Datum → Option Datum
sequence_for (OfStr n) (Some (AText x)) = Some (AText x)
sequence_for (OfTuple n) (Some (ATuple rs)) = Some (ATuple rs)
sequence_for (OfList n) (Some (AList rs)) = Some (AList rs)
sequence_for _ _ = None

-- a number below zero counts as none
abbrev pub times : ℤ → ℕ
times (pos n) = n
times (negsuc n) = 0

-- some items so many times, unless these are too many
abbrev pub with_times : {A : Type 0} → PlainWorld → ℤ → List A → (List A → Said) → Said
with_times w z xs go = cond (nat_le (times z * length xs) most_items) (go (repeat (times z) xs)) (Ends w (fault TooLong))

-- a list in place has the items then, and is the answer
abbrev pub list_repeated : PlainWorld → NativeEntry → PyObjectRef → List PyObjectRef → Said
list_repeated w (OfList InplaceMultiply) o rs = Ends (with_datum w o (AList rs)) (value o)
list_repeated w n o rs = object_made w the_list (AList rs)

abbrev pub repeated : PlainWorld → NativeEntry → PyObjectRef → ℤ → Option Datum → Said
repeated w n o z (Some (AText x)) = with_times w z x (λ y. object_made w the_str (AText y))
repeated w n o z (Some (ATuple rs)) = with_times w z rs (λ ss. object_made w the_tuple (ATuple ss))
repeated w n o z (Some (AList rs)) = with_times w z rs (list_repeated w n o)
repeated w n o z _ = Ends w (fault SelfType)

-- an object is repeated by a native of its kind
abbrev pub native_repeat : PlainWorld → NativeEntry → PyObjectRef → ℤ → Said
native_repeat w n o z = repeated w n o z (sequence_for n (datum_at w o))
