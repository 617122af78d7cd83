-- The rows by which an object stands for a truth value, a whole number or a length answer of their kinds.
use Rattle.vm_calls.proofs.Below.{Bool, Err, None, Ok, Option, Some, cond, int_lt, is_some, not, pos, suc, zero, ℕ, ℤ, [], PyObjectRef, IndexReturn, IntReturn, TruncReturn, IndexRange, NegativeLength, SlotEntry, Native, Wrapper, option_or, tested as length_tested, as_number as length_number, length_given, length_by, length_rest, length_slot, length_say, is_type_error, or_given, expected_by, hinted, expected_given, expected_say, hint_rest, hint_say, truth_of as truth_in, is_int, as_int, is_zero, Kind, number_job_say, as_truth, truth_asked, bool_at, truth_given, truth_rest, is_true_say, number_given, index_asked, index_by, index_say, spelled, text_number, truncated_by, has_index, whole_by, truncated, whole_rest, whole_say, Datum, AText, PlainWorld, DoCall, DoIsTrue, DoIndex, DoWhole, DoLength, DoHint, ToCall, ToProtocol, AsValue, Ended, Chose, Told, Ends, datum_at, class_at, number_of, slot_at, special_at, ask, end, value, fault, on_value, is_not_implemented, fits_index, known_text}
use Rattle.std.proofs.Common.{◌∷◌}
use Rattle.py_node.specs.declared.entry.SlotId.TheVariants as slots
use Rattle.py_node.specs.declared.known.Known.TheVariants as known
use Rattle.vm_calls.specs.AnswerKinds.Kinds as kinds
use Rattle.vm_calls.proofs.AnswerKinds.Base.{So, Fits, within, wider, Kinded, ended, Says, ends, asks, at_once, on_way, never, started, forked, asking, finished, one_of, on-value, on-number, ended-by, either-fits, native-asked}
use Rattle.vm_calls.proofs.AnswerKinds.Said.{either}
use Rattle.vm_calls.proofs.AnswerKinds.Columns.{gives_in, slot-at-gives}
use Rattle.vm_calls.proofs.AnswerKinds.Tables.{int-column, length-column, map-length-column}
use Rattle.vm_calls.proofs.AnswerKinds.Gives.{int-given}
use Rattle.proto_object.specs.ProtoNumber.Truth.{truth_by}

-- an object's special method gives a truth value, or its length a number
abbrev truth_kinds : ℕ → Kind
truth_kinds zero = kinds.Value
truth_kinds (suc n) = kinds.Number

-- a native tells a length, or a special method
abbrev length_kinds : ℕ → Kind
length_kinds zero = kinds.Number
length_kinds (suc n) = kinds.Value

-- truth

asked-said : (w : PlainWorld) (m len : Option PyObjectRef) (o : PyObjectRef) → Says (on_way truth_kinds) kinds.Truth (truth_asked w m len o)
asked-said w (Some m) len o = asks tt
asked-said w None (Some m) o = asks tt
asked-said w None None o = ends tt

truth-said : (w : PlainWorld) (b : Option Bool) (o : PyObjectRef) → Says (on_way truth_kinds) kinds.Truth (truth_by w b o)
truth-said w (Some b) o = ends tt
truth-said w None o = asked-said w (special_at w o (known_text known.Bool)) (special_at w o (known_text known.Len)) o

given-said : (w : PlainWorld) (b : Option Bool) → Says never kinds.Truth (truth_given w b [])
given-said w (Some b) = ends tt
given-said w None = ends tt

truth-rest : (way : ℕ) (r : Ended) → Fits (truth_kinds way) r → Kinded kinds.Truth (λ w. truth_rest w way r)
truth-rest zero r f = on-value kinds.Truth (λ w v. truth_given w (bool_at w v)) r f (λ v. finished kinds.Truth (λ w. truth_given w (bool_at w v)) (λ w. given-said w (bool_at w v)))
truth-rest (suc n) r f = on-number kinds.Truth (λ w z. end w (as_truth (not (is_zero z)))) r f (λ z. ended kinds.Truth (as_truth (not (is_zero z))) tt)

truth-row : (o : PyObjectRef) → Kinded kinds.Truth (λ w. is_true_say w o)
truth-row o = forked truth_kinds kinds.Truth (λ w. truth_by w (truth_in o) o) (λ w. truth_rest w) (λ w. truth-said w (truth_in o) o) (λ way r f. truth-rest way r f)

-- whole numbers

number-given : (refused : Ended) (r : Ended) → Fits kinds.Value refused → Fits kinds.Value r → Kinded kinds.Value (λ w. number_given w refused r)
number-given refused r h f =
    on-value kinds.Value (λ w v. end w (cond (is_some (number_of (datum_at w v))) (value v) refused)) r f
    (λ v. ended-by kinds.Value (λ w. cond (is_some (number_of (datum_at w v))) (value v) refused) (λ w. either-fits kinds.Value (is_some (number_of (datum_at w v))) (value v) refused tt h))

as-int-said : {q : Told → Kind → Bool} (w : PlainWorld) (o : PyObjectRef) (z : ℤ) → Says q kinds.Value (as_int w o z)
as-int-said w o z = either _ (ends tt) (int-given w (Ok z))

index-asked : (w : PlainWorld) (e : Option SlotEntry) (o : PyObjectRef) → Says (at_once kinds.Value) kinds.Value (index_asked w e o)
index-asked w (Some (Wrapper s)) o = asks tt
index-asked w e o = ends tt

index-said : (w : PlainWorld) (z : Option ℤ) (o : PyObjectRef) → Says (at_once kinds.Value) kinds.Value (index_by w z o)
index-said w (Some z) o = as-int-said w o z
index-said w None o = index-asked w (slot_at w o slots.Index) o

index-row : (o : PyObjectRef) → Kinded kinds.Value (λ w. index_say w o)
index-row o = started kinds.Value kinds.Value (λ w. index_by w (number_of (datum_at w o)) o) (λ w. number_given w (fault IndexReturn)) (λ w. index-said w (number_of (datum_at w o)) o) (λ r f. number-given (fault IndexReturn) r tt f)

text-number : (w : PlainWorld) (d : Option Datum) → Says (on_way (λ n. kinds.Value)) kinds.Value (text_number w d)
text-number w (Some (AText x)) = int-given w (spelled x)
text-number w d = ends tt

truncated-said : (w : PlainWorld) (m : Option PyObjectRef) (o : PyObjectRef) → Says (on_way (λ n. kinds.Value)) kinds.Value (truncated_by w m o)
truncated-said w (Some m) o = asks tt
truncated-said w None o = text-number w (datum_at w o)

whole-said : (w : PlainWorld) (e : Option SlotEntry) (o : PyObjectRef) → So (gives_in kinds.Value e) → Says (on_way (λ n. kinds.Value)) kinds.Value (whole_by w e o)
whole-said w (Some (Native n)) o h = native-asked w (Chose 0 ∷ []) n (o ∷ []) [] h
whole-said w None o h = either (has_index w o) (asks tt) (truncated-said w (special_at w o (known_text known.Trunc)) o)
whole-said w (Some e) o h = asks tt

truncated-row : (r : Ended) → Fits kinds.Value r → Kinded kinds.Value (λ w. truncated w r)
truncated-row (Err x) f = ended kinds.Value (fault TruncReturn) tt
truncated-row (Ok a) f = ended kinds.Value (Ok a) f

whole-rest : (way : ℕ) (r : Ended) → Fits kinds.Value r → Kinded kinds.Value (λ w. whole_rest w way r)
whole-rest zero r f = number-given (fault IntReturn) r tt f
whole-rest (suc zero) r f = ended kinds.Value r f
whole-rest (suc (suc n)) r f = on-value kinds.Value (λ w v. ask w (ToProtocol (DoIndex v)) (truncated w)) r f (λ v. asking kinds.Value kinds.Value (ToProtocol (DoIndex v)) (λ w. truncated w) tt (λ s h. truncated-row s h))

whole-row : (o : PyObjectRef) → Kinded kinds.Value (λ w. whole_say w o)
whole-row o =
    forked (λ n. kinds.Value) kinds.Value (λ w. cond (is_int (class_at w o)) (Ends w (value o)) (whole_by w (slot_at w o slots.Int) o)) (λ w. whole_rest w)
    (λ w. either (is_int (class_at w o)) (ends tt) (whole-said w (slot_at w o slots.Int) o (slot-at-gives kinds.Value slots.Int int-column w o))) (λ way r f. whole-rest way r f)

-- lengths

tested-fits : (k : Kind) (z : Option ℤ) → So (within kinds.Number k) → Fits k (length_tested z)
tested-fits k None h = tt
tested-fits k (Some z) h = either-fits k (int_lt z (pos 0)) (fault NegativeLength) (cond (fits_index z) (length_number z) (fault IndexRange)) tt (either-fits k (fits_index z) (length_number z) (fault IndexRange) (wider kinds.Number k (length_number z) h tt) tt)

length-said : (w : PlainWorld) (e : Option SlotEntry) (o : PyObjectRef) → So (gives_in kinds.Number e) → Says (on_way length_kinds) kinds.Number (length_by w e o)
length-said w None o h = ends tt
length-said w (Some (Native n)) o h = native-asked w (Chose 0 ∷ []) n (o ∷ []) [] h
length-said w (Some e) o h = asks tt

length-rest : (way : ℕ) (r : Ended) → Fits (length_kinds way) r → Kinded kinds.Number (λ w. length_rest w way r)
length-rest zero r f = ended kinds.Number r f
length-rest (suc n) r f = on-value kinds.Number (λ w v. length_given w v) r f (λ v. ended-by kinds.Number (λ w. length_tested (number_of (datum_at w v))) (λ w. tested-fits kinds.Number (number_of (datum_at w v)) tt))

or-in : (x y : Option SlotEntry) → So (gives_in kinds.Number x) → So (gives_in kinds.Number y) → So (gives_in kinds.Number (option_or x y))
or-in None y p q = q
or-in (Some s) y p q = p

length-row : (o : PyObjectRef) → Kinded kinds.Number (λ w. length_say w o)
length-row o =
    forked length_kinds kinds.Number (λ w. length_by w (length_slot w o) o) (λ w. length_rest w)
    (λ w. length-said w (length_slot w o) o (or-in (slot_at w o slots.SeqLength) (slot_at w o slots.MapLength) (slot-at-gives kinds.Number slots.SeqLength length-column w o) (slot-at-gives kinds.Number slots.MapLength map-length-column w o)))
    (λ way r f. length-rest way r f)

-- where a number is given, there is one
abbrev pub hint_kind : Option ℤ → Kind
hint_kind None = kinds.NumberOrNone
hint_kind (Some z) = kinds.Number

number-hint : (d : Option ℤ) → So (within kinds.Number (hint_kind d))
number-hint None = tt
number-hint (Some z) = tt

given-fits : (d : Option ℤ) → Fits (hint_kind d) (or_given d)
given-fits None = tt
given-fits (Some z) = tt

hinted-fits : (w : PlainWorld) (d : Option ℤ) (v : PyObjectRef) → Fits (hint_kind d) (hinted w d v)
hinted-fits w d v = either-fits (hint_kind d) (is_not_implemented v) (or_given d) (length_tested (number_of (datum_at w v))) (given-fits d) (tested-fits (hint_kind d) (number_of (datum_at w v)) (number-hint d))

expected-given : (d : Option ℤ) (r : Ended) → Fits kinds.Value r → Kinded (hint_kind d) (λ w. expected_given w d r)
expected-given d (Err x) f = ended (hint_kind d) (cond (is_type_error x.kind) (or_given d) (Err x)) (either-fits (hint_kind d) (is_type_error x.kind) (or_given d) (Err x) (given-fits d) tt)
expected-given d (Ok (AsValue v)) f = ended-by (hint_kind d) (λ w. hinted w d v) (λ w. hinted-fits w d v)
expected-given d (Ok a) f = absurd f

expected-said : (w : PlainWorld) (m : Option PyObjectRef) (o : PyObjectRef) (d : Option ℤ) → Says (at_once kinds.Value) (hint_kind d) (expected_by w m o d)
expected-said w None o d = ends (given-fits d)
expected-said w (Some m) o d = asks tt

expected-row : (o : PyObjectRef) (d : Option ℤ) → Kinded (hint_kind d) (λ w. expected_say w o d)
expected-row o d =
    started kinds.Value (hint_kind d) (λ w. expected_by w (special_at w o (known_text known.LengthHint)) o d) (λ w r. on_value w r (λ b. ask w (ToCall (DoCall b [] [])) (expected_given w d)))
    (λ w. expected-said w (special_at w o (known_text known.LengthHint)) o d)
    (λ r f. on-value (hint_kind d) (λ w b. ask w (ToCall (DoCall b [] [])) (expected_given w d)) r f
    (λ b. asking kinds.Value (hint_kind d) (ToCall (DoCall b [] [])) (λ w. expected_given w d) tt (λ s h. expected-given d s h)))

hint-rest : (o : PyObjectRef) (d : Option ℤ) (r : Ended) → Fits kinds.Number r → Kinded (hint_kind d) (λ w. hint_rest w o d r)
hint-rest o d (Err x) f = one_of (hint_kind d) (is_type_error x.kind) (λ w. expected_say w o d) (λ w. end w (Err x)) (expected-row o d) (ended (hint_kind d) (Err x) tt)
hint-rest o d (Ok a) f = ended (hint_kind d) (Ok a) (wider kinds.Number (hint_kind d) (Ok a) (number-hint d) f)

hint-row : (o : PyObjectRef) (d : Option ℤ) → Kinded (hint_kind d) (λ w. hint_say w o d)
hint-row o d = asking kinds.Number (hint_kind d) (ToProtocol (DoLength o)) (λ w. hint_rest w o d) tt (λ r f. hint-rest o d r f)

pub truth-of : (o : PyObjectRef) → Kinded kinds.Truth (λ w. number_job_say w (DoIsTrue o))
unfolding number_job_say
truth-of o = truth-row o

pub index-of : (o : PyObjectRef) → Kinded kinds.Value (λ w. number_job_say w (DoIndex o))
unfolding number_job_say
index-of o = index-row o

pub whole-of : (o : PyObjectRef) → Kinded kinds.Value (λ w. number_job_say w (DoWhole o))
unfolding number_job_say
whole-of o = whole-row o

pub length-of : (o : PyObjectRef) → Kinded kinds.Number (λ w. number_job_say w (DoLength o))
unfolding number_job_say
length-of o = length-row o

pub hint-of : (o : PyObjectRef) (d : Option ℤ) → Kinded (hint_kind d) (λ w. number_job_say w (DoHint o d))
unfolding number_job_say
hint-of o d = hint-row o d
