-- What the rows of operators say.
use Rattle.proto_ops.specs.Below.{ℤ, cond, [], Option, Some, None, PyObjectRef, IntRange, ArgCount, UnexpectedKeyword, ANumber, PlainWorld, Bindings, OperatorJob, DoAdd, DoBinOp1, DoEnter, DoBinary, DoInplaceOp1, DoInplace, DoConcat, DoInplaceAdd, DoInplaceConcat, DoMul, DoRepeat, DoInplaceMul, DoInplaceRepeat, DoNativeRepeat, DoEnterPower, DoPower, DoInplacePower, DoUnary, DoInt, datum_at, number_of, two_of, the_int, Row, end, value, not_implemented, fits, fault, make, native_repeat}
use Rattle.std.specs.Prelude.{◌+ℤ◌, ◌∷◌}
use Rattle.proto_ops.specs.Binary.{binop1_say, enter_say, binary_say, inplace_op1_say, inplace_say, unary_say}
use Rattle.proto_ops.specs.Sequences.{add_say, concat_say, inplace_add_say, inplace_concat_say, mul_say, inplace_mul_say, repeat_say, inplace_repeat_say}
use Rattle.proto_ops.specs.Powers.{enter_power_say, power_say, inplace_power_say}

-- the natives of `int` that stand in this group

-- the sum of two numbers, where it fits
abbrev pub total : ℤ → ℤ → Option ℤ
total x y = cond (fits (x +ℤ y)) (Some (x +ℤ y)) None

abbrev pub int_or_fault : PlainWorld → Option ℤ → Row
int_or_fault w None = end w (fault IntRange)
int_or_fault w (Some z) = make w the_int (ANumber z)

abbrev pub sum_say : PlainWorld → Option ℤ → Option ℤ → Row
sum_say w (Some x) (Some y) = int_or_fault w (total x y)
sum_say w _ _ = end w (value not_implemented)

abbrev pub without_keywords : PlainWorld → Bindings → Row → Row
without_keywords w [] go = go
without_keywords w (k ∷ kw) go = end w (fault UnexpectedKeyword)

-- the sum of two whole numbers. Two operands are wanted, and no keyword
abbrev pub int_say : PlainWorld → Option (PyObjectRef × PyObjectRef) → Bindings → Row
int_say w None kw = end w (fault ArgCount)
int_say w (Some p) kw = without_keywords w kw (sum_say w (number_of (datum_at w p.0)) (number_of (datum_at w p.1)))

unfoldable pub operator_say : PlainWorld → OperatorJob → Row
operator_say w (DoAdd a b) told = add_say w a b told
operator_say w (DoBinOp1 o a b) told = binop1_say w o a b told
operator_say w (DoEnter s a b) told = enter_say w s a b told
operator_say w (DoBinary o a b) told = binary_say w o a b told
operator_say w (DoInplaceOp1 o a b) told = inplace_op1_say w o a b told
operator_say w (DoInplace o a b) told = inplace_say w o a b told
operator_say w (DoConcat a b) told = concat_say w a b told
operator_say w (DoInplaceAdd a b) told = inplace_add_say w a b told
operator_say w (DoInplaceConcat a b) told = inplace_concat_say w a b told
operator_say w (DoMul a b) told = mul_say w a b told
operator_say w (DoRepeat a z) told = repeat_say w a z told
operator_say w (DoInplaceMul a b) told = inplace_mul_say w a b told
operator_say w (DoInplaceRepeat a z) told = inplace_repeat_say w a z told
operator_say w (DoNativeRepeat n a z) told = native_repeat w n a z
operator_say w (DoEnterPower s a b c) told = enter_power_say w s a b c told
operator_say w (DoPower a b c) told = power_say w a b c told
operator_say w (DoInplacePower a b c) told = inplace_power_say w a b c told
operator_say w (DoUnary o a) told = unary_say w o a told
operator_say w (DoInt n args kw) told = int_say w (two_of args) kw told
