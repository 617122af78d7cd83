-- The natives that end at once answer of their kinds.
use Rattle.vm_calls.proofs.Below.{Bool, Err, List, None, Ok, Option, Result, Some, codes, eqb, false, length, not, true, ℕ, ℤ, [], PyObjectRef, Raised as Fault, FixedNative, NumberNative, ArithmeticNative, BitNative, StrNative, CompareNative, OfNumber, OfStr, truth_text, truth_or, truth_by, bits_of, bits_by, bits_say, fixed_first, with_fixed, fixed_say, number_by, number_say, unless_third, with_powers, with_operands, pair_made, divided_by, arithmetic_by, arithmetic_say, is_zero, truth_of as truth_in, as_int, is_int, negated, absolute, inverted, difference, product, quotient, remainder, power, repr_text, stands_in, in_length, int_made, numbers_of, signed_decimal, str_to_ascii_uppercase, fixed_none, fixed_not_implemented, add_by, text_say, compare_text_say, with_own_text, with_lone_text, with_text_and, is_str, text_of as text_in, Kind, kind_of_native, ANumber, Bindings, PlainWorld, Said, datum_at, class_at, number_of, with_node, next_node, the_int, value, truth, with_one, with_two, Text}
use Rattle.std.proofs.Common.{◌++◌, ◌==◌, ◌∷◌}
use Rattle.py_node.specs.declared.entry.FixedNative.TheVariants as fixed
use Rattle.py_node.specs.declared.entry.NumberNative.TheVariants as number
use Rattle.py_node.specs.declared.entry.ArithmeticNative.TheVariants as arithmetic
use Rattle.py_node.specs.declared.entry.StrNative.TheVariants as str
use Rattle.py_node.specs.declared.entry.CompareNative.TheVariants as compare
use Rattle.proto_ops.specs.NativeNumbers.Say.{compared as numbers_compared, compare_say as numbers_say}
use Rattle.native_containers.specs.NativeTexts.Say.{compared as texts_compared, contains_by as text_contains}
use Rattle.vm_calls.specs.AnswerKinds.Kinds as kinds
use Rattle.vm_calls.proofs.AnswerKinds.Base.{Fits, Says, ends, never}
use Rattle.vm_calls.proofs.AnswerKinds.Said.{either, takes-one, takes-two, takes-three, takes-text}
use Rattle.vm_calls.proofs.AnswerKinds.Gives.{int-given, text-given, iterator-given, takes-lone-number, takes-number-and, numbers-held, takes-numbers}

-- numbers

fixed-first : (w : PlainWorld) (own : ℕ) (args : List PyObjectRef) (go : Said) → Says never kinds.Value go → Says never kinds.Value (fixed_first w own args go)
fixed-first w own [] go p = ends tt
fixed-first w own (o ∷ args) go p = either (eqb o.0 own) p (ends tt)

fixed-taken : (w : PlainWorld) (own : ℕ) (args : List PyObjectRef) (kw : Bindings) (go : Said) → Says never kinds.Value go → Says never kinds.Value (with_fixed w own args kw go)
fixed-taken w own args kw go p = fixed-first w own args (with_one w args kw (λ o. go)) (takes-one w args kw (λ o. go) (λ o. p))

pub fixed-native : (w : PlainWorld) (n : FixedNative) (args : List PyObjectRef) (kw : Bindings) → Says never kinds.Value (fixed_say w n args kw)
fixed-native w fixed.NoneRepr args kw = fixed-taken w fixed_none args kw _ (text-given w (Ok (codes "None")))
fixed-native w fixed.NoneBoolean args kw = fixed-taken w fixed_none args kw _ (ends tt)
fixed-native w fixed.NotImplementedRepr args kw = fixed-taken w fixed_not_implemented args kw _ (text-given w (Ok (codes "NotImplemented")))

as-int-given : (w : PlainWorld) (o : PyObjectRef) (z : ℤ) → Says never kinds.Value (as_int w o z)
as-int-given w o z = either (is_int (class_at w o)) (ends tt) (int-given w (Ok z))

number-given : (w : PlainWorld) (n : NumberNative) (o : PyObjectRef) (z : ℤ) → Says never (kind_of_native (OfNumber n)) (number_by w n o z)
unfolding kind_of_native
number-given w number.Repr o z = text-given w (Ok (signed_decimal z))
number-given w number.Hash o z = ends tt
number-given w number.Negative o z = int-given w (negated z)
number-given w number.Positive o z = as-int-given w o z
number-given w number.Absolute o z = int-given w (absolute z)
number-given w number.Invert o z = int-given w (Ok (inverted z))
number-given w number.Boolean o z = ends tt
number-given w number.Int o z = as-int-given w o z
number-given w number.Index o z = as-int-given w o z
number-given w number.Truncate o z = as-int-given w o z
number-given w number.BooleanRepr o z = text-given w (Ok (truth_text (not (is_zero z))))

pub number-native : (w : PlainWorld) (n : NumberNative) (args : List PyObjectRef) (kw : Bindings) → Says never (kind_of_native (OfNumber n)) (number_say w n args kw)
unfolding kind_of_native
number-native w n args kw = takes-lone-number w args kw (number_by w n) (λ o z. number-given w n o z)

powers-taken : (w : PlainWorld) (args : List PyObjectRef) (kw : Bindings) (go : ℤ → ℤ → Said) → ((x y : ℤ) → Says never kinds.Value (go x y)) → Says never kinds.Value (with_powers w args kw go)
powers-taken w args kw go p =
    either (length args == 3) (takes-three w args kw (λ a b c. numbers_of w a b (λ x y. unless_third w c (go x y))) (λ a b c. numbers-held w a b (λ x y. unless_third w c (go x y)) (λ x y. either (eqb c.0 fixed_none) (p x y) (ends tt))))
    (takes-numbers w args kw go p)

operands-taken : (w : PlainWorld) (n : ArithmeticNative) (args : List PyObjectRef) (kw : Bindings) (go : ℤ → ℤ → Said) → ((x y : ℤ) → Says never kinds.Value (go x y)) → Says never kinds.Value (with_operands w n args kw go)
operands-taken w arithmetic.Power args kw go p = powers-taken w args kw go p
operands-taken w arithmetic.RightPower args kw go p = powers-taken w args kw go p
operands-taken w n args kw go p = takes-numbers w args kw go p

pair-given : (w : PlainWorld) (q : PyObjectRef) (r : ℤ) → Says never kinds.Value (pair_made w q r)
pair-given w q r = ends tt

divided-given : (w : PlainWorld) (q r : Result ℤ Fault) → Says never kinds.Value (divided_by w q r)
divided-given w (Ok q) (Ok r) = pair-given (with_node w the_int (ANumber q)) (next_node w the_int) r
divided-given w (Ok q) (Err x) = ends tt
divided-given w (Err x) r = ends tt

arithmetic-given : (w : PlainWorld) (n : ArithmeticNative) (x y : ℤ) → Says never kinds.Value (arithmetic_by w n x y)
arithmetic-given w arithmetic.Divmod x y = divided-given w (quotient x y) (remainder x y)
arithmetic-given w arithmetic.RightDivmod x y = divided-given w (quotient y x) (remainder y x)
arithmetic-given w arithmetic.Subtract x y = int-given w (difference x y)
arithmetic-given w arithmetic.RightSubtract x y = int-given w (difference y x)
arithmetic-given w arithmetic.Multiply x y = int-given w (product x y)
arithmetic-given w arithmetic.RightMultiply x y = int-given w (product y x)
arithmetic-given w arithmetic.Remainder x y = int-given w (remainder x y)
arithmetic-given w arithmetic.RightRemainder x y = int-given w (remainder y x)
arithmetic-given w arithmetic.Power x y = int-given w (power x y)
arithmetic-given w arithmetic.RightPower x y = int-given w (power y x)
arithmetic-given w arithmetic.FloorDivide x y = int-given w (quotient x y)
arithmetic-given w arithmetic.RightFloorDivide x y = int-given w (quotient y x)

pub arithmetic-native : (w : PlainWorld) (n : ArithmeticNative) (args : List PyObjectRef) (kw : Bindings) → Says never kinds.Value (arithmetic_say w n args kw)
arithmetic-native w n args kw = operands-taken w n args kw (arithmetic_by w n) (λ x y. arithmetic-given w n x y)

truth-or : (w : PlainWorld) (b : Option Bool) (other : Said) → Says never kinds.Value other → Says never kinds.Value (truth_or w b other)
truth-or w (Some b) other p = ends tt
truth-or w None other p = p

pub bits-native : (w : PlainWorld) (n : BitNative) (args : List PyObjectRef) (kw : Bindings) → Says never kinds.Value (bits_say w n args kw)
bits-native w n args kw = takes-two w args kw (bits_of w n) (λ a b. truth-or w (truth_by n (truth_in a) (truth_in b)) _ (numbers-held w a b (λ x y. int_made w (bits_by n x y)) (λ x y. int-given w (bits_by n x y))))

compared-given : (w : PlainWorld) (n : CompareNative) (x : ℤ) (y : Option ℤ) → Says never kinds.Value (numbers_compared w n x y)
compared-given w n x (Some y) = ends tt
compared-given w n x None = ends tt

pub compare-native : (w : PlainWorld) (n : CompareNative) (args : List PyObjectRef) (kw : Bindings) → Says never kinds.Value (numbers_say w n args kw)
compare-native w compare.All args kw = ends tt
compare-native w n args kw = takes-number-and w args kw _ (λ x a. compared-given w n x (number_of (datum_at w a)))

-- texts

own-text : {k : Kind} (w : PlainWorld) (args : List PyObjectRef) (go : Text → Said) → ((x : Text) → Says never k (go x)) → Says never k (with_own_text w args go)
own-text w [] go p = ends tt
own-text w (o ∷ args) go p = takes-text w o go p

lone-text : {k : Kind} (w : PlainWorld) (args : List PyObjectRef) (kw : Bindings) (go : PyObjectRef → Text → Said) → ((o : PyObjectRef) (x : Text) → Says never k (go o x)) → Says never k (with_lone_text w args kw go)
lone-text w args kw go p = own-text w args (λ x. with_one w args kw (λ o. go o x)) (λ x. takes-one w args kw (λ o. go o x) (λ o. p o x))

text-and : {k : Kind} (w : PlainWorld) (args : List PyObjectRef) (kw : Bindings) (go : Text → PyObjectRef → Said) → ((x : Text) (a : PyObjectRef) → Says never k (go x a)) → Says never k (with_text_and w args kw go)
text-and w args kw go p = own-text w args (λ x. with_two w args kw (λ o a. go x a)) (λ x. takes-two w args kw (λ o a. go x a) (λ o a. p x a))

truth-fits : (b : Bool) → Fits kinds.TruthValue (value (truth b))
truth-fits true = tt
truth-fits false = tt

contains-given : (w : PlainWorld) (x : Text) (y : Option Text) → Says never kinds.TruthValue (text_contains w x y)
contains-given w x None = ends tt
contains-given w x (Some y) = ends (truth-fits (stands_in y x))

add-given : (w : PlainWorld) (x : Text) (y : Option Text) → Says never kinds.Value (add_by w x y)
add-given w x None = ends tt
add-given w x (Some y) = text-given w (in_length (x ++ y))

pub text-native : (w : PlainWorld) (n : StrNative) (args : List PyObjectRef) (kw : Bindings) → Says never (kind_of_native (OfStr n)) (text_say w n args kw)
unfolding kind_of_native
text-native w str.Repr args kw = lone-text w args kw _ (λ o x. text-given w (in_length (repr_text x)))
text-native w str.Str args kw = lone-text w args kw _ (λ o x. either (is_str (class_at w o)) (ends tt) (text-given w (Ok x)))
text-native w str.Hash args kw = lone-text w args kw _ (λ o x. ends tt)
text-native w str.Length args kw = lone-text w args kw _ (λ o x. ends tt)
text-native w str.Contains args kw = text-and w args kw _ (λ x a. contains-given w x (text_in (datum_at w a)))
text-native w str.Iter args kw = lone-text w args kw _ (λ o x. iterator-given w o)
text-native w str.Add args kw = text-and w args kw _ (λ x a. add-given w x (text_in (datum_at w a)))
text-native w str.Upper args kw = lone-text w args kw _ (λ o x. text-given w (Ok (str_to_ascii_uppercase x)))
text-native w n args kw = ends tt

texts-given : (w : PlainWorld) (n : CompareNative) (x : Text) (y : Option Text) → Says never kinds.Value (texts_compared w n x y)
texts-given w n x (Some y) = ends tt
texts-given w n x None = ends tt

pub compare-text-native : (w : PlainWorld) (n : CompareNative) (args : List PyObjectRef) (kw : Bindings) → Says never kinds.Value (compare_text_say w n args kw)
compare-text-native w compare.All args kw = ends tt
compare-text-native w n args kw = text-and w args kw _ (λ x a. texts-given w n x (text_in (datum_at w a)))
