-- What is repeated, where it is known what an object holds.
use Rattle.proto_ops.proofs.Below.{List, Some, Ok, Err, sym, ap, ◌∙◌, Vec, ℤ, Result, IfErr, IfOk, ListNative, NativeEntry, OfList, OfStr, OfTuple, StrNative, TupleNative, Raised as Fault, PyObjectRef, Text, the_str, the_tuple, AList, AText, ATuple, PlainWorld, Said, Ends, datum_at, list_repeated, native_repeat, repeated, sequence_for, with_times, object_made, ended_with, list_stood, repeat_stood}
use Rattle.std.proofs.Common.{◌≡◌}

-- a text is repeated
pub text-says : (u : PlainWorld) (m : StrNative) (o : PyObjectRef) (z : ℤ) (x : Text) (s : Said) → datum_at u o ≡ Some (AText x) → with_times u z x (λ y. object_made u the_str (AText y)) ≡ s → native_repeat u (OfStr m) o z ≡ s
text-says u m o z x s at says = ap (λ d. repeated u (OfStr m) o z (sequence_for (OfStr m) d)) at ∙ says

-- these are the items then
abbrev Given : ℤ → List PyObjectRef → Result (Vec PyObjectRef) Fault → Type 0
Given z rs all = IfOk all (λ xs. (w : PlainWorld) (go : List PyObjectRef → Said) → with_times w z rs go ≡ go xs.items)

-- or they are too many
abbrev Refused : ℤ → List PyObjectRef → Result (Vec PyObjectRef) Fault → Type 0
Refused z rs all = IfErr all (λ x. (w : PlainWorld) (go : List PyObjectRef → Said) → with_times w z rs go ≡ Ends w (Err x))

-- a tuple is repeated
pub tuple-says : (u : PlainWorld) (m : TupleNative) (n : NativeEntry) (o : PyObjectRef) (z : ℤ) (rs : List PyObjectRef) (all : Result (Vec PyObjectRef) Fault) → n ≡ OfTuple m → datum_at u o ≡ Some (ATuple rs) → Given z rs all → Refused z rs all → native_repeat u n o z ≡ ended_with u n o all
tuple-says u m n o z rs (Ok xs) is at given refused =
    ap (λ e. native_repeat u e o z) is ∙ ap (λ d. repeated u (OfTuple m) o z (sequence_for (OfTuple m) d)) at ∙ given u (λ ss. object_made u the_tuple (ATuple ss)) ∙ sym (ap (λ e. ended_with u e o (Ok xs)) is)
tuple-says u m n o z rs (Err x) is at given refused =
    ap (λ e. native_repeat u e o z) is ∙ ap (λ d. repeated u (OfTuple m) o z (sequence_for (OfTuple m) d)) at ∙ refused u (λ ss. object_made u the_tuple (ATuple ss))

-- a list is repeated
pub list-says : (u : PlainWorld) (m : ListNative) (n : NativeEntry) (o : PyObjectRef) (z : ℤ) (rs : List PyObjectRef) (all : Result (Vec PyObjectRef) Fault) → n ≡ OfList m → datum_at u o ≡ Some (AList rs) → Given z rs all → Refused z rs all → native_repeat u n o z ≡ ended_with u n o all
list-says u m n o z rs (Ok xs) is at given refused =
    ap (λ e. native_repeat u e o z) is ∙ ap (λ d. repeated u (OfList m) o z (sequence_for (OfList m) d)) at ∙ given u (list_repeated u (OfList m) o) ∙ sym (ap (λ e. ended_with u e o (Ok xs)) is)
list-says u m n o z rs (Err x) is at given refused =
    ap (λ e. native_repeat u e o z) is ∙ ap (λ d. repeated u (OfList m) o z (sequence_for (OfList m) d)) at ∙ refused u (list_repeated u (OfList m) o)

-- a list is repeated with the items that it had
pub stood-says : (u : PlainWorld) (m : ListNative) (n : NativeEntry) (o : PyObjectRef) (z : ℤ) (rs now : List PyObjectRef) (all : Result (Vec PyObjectRef) Fault) → n ≡ OfList m → datum_at u o ≡ Some (AList now) → Given z rs all → Refused z rs all → repeat_stood u n o rs z ≡ ended_with u n o all
stood-says u m n o z rs now (Ok xs) is at given refused =
    ap (λ e. repeat_stood u e o rs z) is ∙ ap (list_stood u (OfList m) o rs z) at ∙ given u (list_repeated u (OfList m) o) ∙ sym (ap (λ e. ended_with u e o (Ok xs)) is)
stood-says u m n o z rs now (Err x) is at given refused =
    ap (λ e. repeat_stood u e o rs z) is ∙ ap (list_stood u (OfList m) o rs z) at ∙ refused u (list_repeated u (OfList m) o)
