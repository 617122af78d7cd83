-- What the rows say by which an object stands for a whole number.
use Rattle.proto_object.specs.Below.{ℕ, zero, suc, ℤ, pos, neg_ℤ, Bool, false, cond, is_some, [], Option, Some, None, Result, Err, is_ascii_digit, list_all, digits_value, PyObjectRef, Raised as Fault, IndexReturn, IntLiteral, IntReturn, NotIndex, NotInt, TruncReturn, SlotEntry, Native, Wrapper, known_text, Text, Datum, AText, PlainWorld, DoSpecial, DoIndex, ToAttribute, ToProtocol, Ended, Said, Asks, Ends, Chose, class_at, datum_at, number_of, slot_at, native_task, special_at, Row, start, fork, ask, pass, end, value, fault, on_value, in_range, int_made, as_int, is_int}
use Rattle.std.specs.Prelude.{◌||◌, ◌==◌, ◌∷◌}
use Rattle.py_node.specs.declared.entry.SlotId.TheVariants as slot
use Rattle.py_node.specs.declared.known.Known.TheVariants as known

-- a method must answer an object that holds a number, and that is the answer
abbrev pub number_given : PlainWorld → Ended → Ended → Row
number_given w refused r = on_value w r (λ v. end w (cond (is_some (number_of (datum_at w v))) (value v) refused))

-- an index: a number is one, of another class than `int` as a new one; others have a special method for it

abbrev pub index_asked : PlainWorld → Option SlotEntry → PyObjectRef → Said
index_asked w (Some (Wrapper s)) o = pass w (ToAttribute (DoSpecial o (known_text known.Index) [] []))
index_asked w _ o = Ends w (fault NotIndex)

abbrev pub index_by : PlainWorld → Option ℤ → PyObjectRef → Said
index_by w (Some z) o = as_int w o z
index_by w None o = index_asked w (slot_at w o slot.Index) o

abbrev pub index_say : PlainWorld → PyObjectRef → Row
index_say w o = start (index_by w (number_of (datum_at w o)) o) (number_given w (fault IndexReturn))

-- a whole number: by an object's own slot, or as an index, or by its special method for truncation, or what its text spells

-- decimal digits, at least one
abbrev pub is_numeral : Text → Bool
is_numeral [] = false
is_numeral (b ∷ bs) = list_all is_ascii_digit (b ∷ bs)

-- whether a text begins with a minus, and what follows a sign, if there is one
abbrev pub is_negative : Text → Bool
is_negative [] = false
is_negative (b ∷ bs) = b == 45

abbrev pub without_sign : Text → Text
without_sign [] = []
without_sign (b ∷ bs) = cond (b == 45) bs (cond (b == 43) bs (b ∷ bs))

abbrev pub signed : Bool → ℕ → ℤ
signed negative n = cond negative (neg_ℤ (pos n)) (pos n)

-- the number that a text spells, if it spells one
abbrev pub spelled : Text → Result ℤ Fault
spelled x = cond (is_numeral (without_sign x)) (in_range (signed (is_negative x) (digits_value 10 (without_sign x)))) (fault IntLiteral)

abbrev pub text_number : PlainWorld → Option Datum → Said
text_number w (Some (AText x)) = int_made w (spelled x)
text_number w _ = Ends w (fault NotInt)

abbrev pub truncated_by : PlainWorld → Option PyObjectRef → PyObjectRef → Said
truncated_by w (Some m) o = Asks w (Chose 2 ∷ []) (ToAttribute (DoSpecial o (known_text known.Trunc) [] []))
truncated_by w None o = text_number w (datum_at w o)

-- whether an object is an index, or has a slot for that
abbrev pub has_index : PlainWorld → PyObjectRef → Bool
has_index w o = is_some (number_of (datum_at w o)) || is_some (slot_at w o slot.Index)

abbrev pub whole_by : PlainWorld → Option SlotEntry → PyObjectRef → Said
whole_by w (Some (Native n)) o = Asks w (Chose 0 ∷ []) (native_task n (o ∷ []) [])
whole_by w (Some e) o = Asks w (Chose 0 ∷ []) (ToAttribute (DoSpecial o (known_text known.Int) [] []))
whole_by w None o = cond (has_index w o) (Asks w (Chose 1 ∷ []) (ToProtocol (DoIndex o))) (truncated_by w (special_at w o (known_text known.Trunc)) o)

-- what truncation gives must be an index, whatever the fault is where it is none
abbrev pub truncated : PlainWorld → Ended → Row
truncated w (Err x) = end w (fault TruncReturn)
truncated w r = end w r

abbrev pub whole_rest : PlainWorld → ℕ → Ended → Row
whole_rest w zero r = number_given w (fault IntReturn) r
whole_rest w (suc zero) r = end w r
whole_rest w (suc (suc n)) r = on_value w r (λ v. ask w (ToProtocol (DoIndex v)) (truncated w))

abbrev pub whole_say : PlainWorld → PyObjectRef → Row
whole_say w o = fork (cond (is_int (class_at w o)) (Ends w (value o)) (whole_by w (slot_at w o slot.Int) o)) (whole_rest w)
