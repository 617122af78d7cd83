-- What the natives of None, NotImplemented, numbers and truth values say.
use Rattle.proto_ops.specs.Below.{ℕ, ℤ, int_lt, Bool, true, false, cond, not, eqb, codes, length, List, [], Option, Some, None, Result, Ok, Err, int_eq, signed_decimal, w128, int_bit_and, int_bit_or, int_bit_xor, PyObjectRef, Raised as Fault, ArgCount, SelfType, ArithmeticNative, BitNative, CompareNative, FixedNative, NumberNative, fixed_none, fixed_not_implemented, Text, ANumber, ATuple, PlainWorld, Bindings, Said, Ends, datum_at, number_of, with_node, next_node, the_int, the_tuple, value, truth, not_implemented, fault, elsewhere, with_one, with_two, with_three, int_made, number_told, text_made, numbers_of, with_lone_number, with_number_and, with_numbers, is_zero, number_hash, as_int, truth_of}
use Rattle.std.specs.Prelude.{◌==◌, ◌&&◌, ◌||◌, ◌∷◌}
use Rattle.py_node.specs.declared.entry.ArithmeticNative.TheVariants as arithmetic
use Rattle.py_node.specs.declared.entry.BitNative.TheVariants as bits
use Rattle.py_node.specs.declared.entry.CompareNative.TheVariants as compare
use Rattle.py_node.specs.declared.entry.FixedNative.TheVariants as fixed
use Rattle.py_node.specs.declared.entry.NumberNative.TheVariants as number
use Rattle.proto_ops.specs.NativeNumbers.Numbers.{negated, absolute, inverted, difference, product, quotient, remainder, power, right_shifted, left_shifted}

-- the natives of None and NotImplemented, each of which is for its own object alone

abbrev pub fixed_of : FixedNative → ℕ
fixed_of fixed.NoneRepr = fixed_none
fixed_of fixed.NoneBoolean = fixed_none
fixed_of fixed.NotImplementedRepr = fixed_not_implemented

abbrev pub fixed_first : PlainWorld → ℕ → List PyObjectRef → Said → Said
fixed_first w own [] go = Ends w (fault ArgCount)
fixed_first w own (o ∷ args) go = cond (eqb o.0 own) go (Ends w (fault SelfType))

abbrev pub with_fixed : PlainWorld → ℕ → List PyObjectRef → Bindings → Said → Said
with_fixed w own args kw go = fixed_first w own args (with_one w args kw (λ o. go))

abbrev pub fixed_say : PlainWorld → FixedNative → List PyObjectRef → Bindings → Said
fixed_say w fixed.NoneRepr args kw = with_fixed w fixed_none args kw (text_made w (Ok (codes "None")))
fixed_say w fixed.NoneBoolean args kw = with_fixed w fixed_none args kw (Ends w (value (truth false)))
fixed_say w fixed.NotImplementedRepr args kw = with_fixed w fixed_not_implemented args kw (text_made w (Ok (codes "NotImplemented")))

-- natives of one number

abbrev pub truth_text : Bool → Text
truth_text true = codes "True"
truth_text false = codes "False"

abbrev pub number_by : PlainWorld → NumberNative → PyObjectRef → ℤ → Said
number_by w number.Repr o z = text_made w (Ok (signed_decimal z))
number_by w number.Hash o z = number_told w (number_hash z)
number_by w number.Negative o z = int_made w (negated z)
number_by w number.Positive o z = as_int w o z
number_by w number.Absolute o z = int_made w (absolute z)
number_by w number.Invert o z = int_made w (Ok (inverted z))
number_by w number.Boolean o z = Ends w (value (truth (not (is_zero z))))
number_by w number.Int o z = as_int w o z
number_by w number.Index o z = as_int w o z
number_by w number.Truncate o z = as_int w o z
number_by w number.BooleanRepr o z = text_made w (Ok (truth_text (not (is_zero z))))

abbrev pub number_say : PlainWorld → NumberNative → List PyObjectRef → Bindings → Said
number_say w n args kw = with_lone_number w args kw (number_by w n)

-- natives that reckon with two numbers

-- a power may have a third operand. The native is for None alone there
abbrev pub unless_third : PlainWorld → PyObjectRef → Said → Said
unless_third w c go = cond (eqb c.0 fixed_none) go (Ends w (value not_implemented))

abbrev pub with_powers : PlainWorld → List PyObjectRef → Bindings → (ℤ → ℤ → Said) → Said
with_powers w args kw go =
    cond (length args == 3) (with_three w args kw (λ a b c. numbers_of w a b (λ x y. unless_third w c (go x y)))) (with_numbers w args kw go)

abbrev pub with_operands : PlainWorld → ArithmeticNative → List PyObjectRef → Bindings → (ℤ → ℤ → Said) → Said
with_operands w arithmetic.Power args kw go = with_powers w args kw go
with_operands w arithmetic.RightPower args kw go = with_powers w args kw go
with_operands w n args kw go = with_numbers w args kw go

-- the tuple of two new numbers, which are made before it
abbrev pub pair_made : PlainWorld → PyObjectRef → ℤ → Said
pair_made w q r =
    let u = with_node w the_int (ANumber r) in
    let pair = ATuple (q ∷ next_node w the_int ∷ []) in
    Ends (with_node u the_tuple pair) (value (next_node u the_tuple))

abbrev pub divided_by : PlainWorld → Result ℤ Fault → Result ℤ Fault → Said
divided_by w (Ok q) (Ok r) = pair_made (with_node w the_int (ANumber q)) (next_node w the_int) r
divided_by w (Ok q) (Err x) = Ends w (Err x)
divided_by w (Err x) r = Ends w (Err x)

-- a quotient and what it leaves
abbrev pub divided : PlainWorld → ℤ → ℤ → Said
divided w x y = divided_by w (quotient x y) (remainder x y)

-- the natives of the right operand turn the two
abbrev pub arithmetic_by : PlainWorld → ArithmeticNative → ℤ → ℤ → Said
arithmetic_by w arithmetic.Subtract x y = int_made w (difference x y)
arithmetic_by w arithmetic.RightSubtract x y = int_made w (difference y x)
arithmetic_by w arithmetic.Multiply x y = int_made w (product x y)
arithmetic_by w arithmetic.RightMultiply x y = int_made w (product y x)
arithmetic_by w arithmetic.Remainder x y = int_made w (remainder x y)
arithmetic_by w arithmetic.RightRemainder x y = int_made w (remainder y x)
arithmetic_by w arithmetic.Divmod x y = divided w x y
arithmetic_by w arithmetic.RightDivmod x y = divided w y x
arithmetic_by w arithmetic.Power x y = int_made w (power x y)
arithmetic_by w arithmetic.RightPower x y = int_made w (power y x)
arithmetic_by w arithmetic.FloorDivide x y = int_made w (quotient x y)
arithmetic_by w arithmetic.RightFloorDivide x y = int_made w (quotient y x)

abbrev pub arithmetic_say : PlainWorld → ArithmeticNative → List PyObjectRef → Bindings → Said
arithmetic_say w n args kw = with_operands w n args kw (arithmetic_by w n)

-- natives on bits, as the numbers have them in 128 places, those below zero as the complement of two

abbrev pub bits_by : BitNative → ℤ → ℤ → Result ℤ Fault
bits_by bits.Lshift x y = left_shifted x y
bits_by bits.RightLshift x y = left_shifted y x
bits_by bits.Rshift x y = right_shifted x y
bits_by bits.RightRshift x y = right_shifted y x
bits_by bits.And x y = Ok (int_bit_and w128 x y)
bits_by bits.RightAnd x y = Ok (int_bit_and w128 y x)
bits_by bits.Xor x y = Ok (int_bit_xor w128 x y)
bits_by bits.RightXor x y = Ok (int_bit_xor w128 y x)
bits_by bits.Or x y = Ok (int_bit_or w128 x y)
bits_by bits.RightOr x y = Ok (int_bit_or w128 y x)
bits_by bits.BooleanAnd x y = Ok (int_bit_and w128 x y)
bits_by bits.RightBooleanAnd x y = Ok (int_bit_and w128 y x)
bits_by bits.BooleanXor x y = Ok (int_bit_xor w128 x y)
bits_by bits.RightBooleanXor x y = Ok (int_bit_xor w128 y x)
bits_by bits.BooleanOr x y = Ok (int_bit_or w128 x y)
bits_by bits.RightBooleanOr x y = Ok (int_bit_or w128 y x)

-- whether just one of two holds
abbrev pub just_one : Bool → Bool → Bool
just_one p q = cond p (not q) q

-- of two truth values, the natives of `bool` give one
abbrev pub truth_by : BitNative → Option Bool → Option Bool → Option Bool
truth_by bits.BooleanAnd (Some p) (Some q) = Some (p && q)
truth_by bits.RightBooleanAnd (Some p) (Some q) = Some (q && p)
truth_by bits.BooleanXor (Some p) (Some q) = Some (just_one p q)
truth_by bits.RightBooleanXor (Some p) (Some q) = Some (just_one q p)
truth_by bits.BooleanOr (Some p) (Some q) = Some (p || q)
truth_by bits.RightBooleanOr (Some p) (Some q) = Some (q || p)
truth_by _ p q = None

abbrev pub truth_or : PlainWorld → Option Bool → Said → Said
truth_or w (Some b) other = Ends w (value (truth b))
truth_or w None other = other

abbrev pub bits_of : PlainWorld → BitNative → PyObjectRef → PyObjectRef → Said
bits_of w n a b =
    truth_or w (truth_by n (truth_of a) (truth_of b)) (numbers_of w a b (λ x y. int_made w (bits_by n x y)))

abbrev pub bits_say : PlainWorld → BitNative → List PyObjectRef → Bindings → Said
bits_say w n args kw = with_two w args kw (bits_of w n)

-- comparisons of numbers

abbrev pub order_by : CompareNative → ℤ → ℤ → Bool
order_by compare.Eq x y = int_eq x y
order_by compare.Ne x y = not (int_eq x y)
order_by compare.Lt x y = int_lt x y
order_by compare.Le x y = not (int_lt y x)
order_by compare.Ge x y = not (int_lt x y)
order_by compare.Gt x y = int_lt y x
order_by compare.All x y = false

-- a comparison is not for other objects
abbrev pub compared : PlainWorld → CompareNative → ℤ → Option ℤ → Said
compared w n x (Some y) = Ends w (value (truth (order_by n x y)))
compared w n x None = Ends w (value not_implemented)

abbrev pub compare_say : PlainWorld → CompareNative → List PyObjectRef → Bindings → Said
compare_say w compare.All args kw = Ends w elsewhere
compare_say w n args kw = with_number_and w args kw (λ x a. compared w n x (number_of (datum_at w a)))
