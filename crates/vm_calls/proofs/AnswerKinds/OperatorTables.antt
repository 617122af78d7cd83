-- What the natives of the built-in classes answer that stand in the slots of operators.
use Rattle.vm_calls.proofs.Below.{PyObjectRef, BuiltIn, PyNumberBinaryOp, operator_row, operators, own_attrs, names_of, slot_names, filling_of, slot_fillings, place_of as slot_place, entry_among, PlainWorld, Value, kind_of_native, slot_in_place}
use Rattle.py_node.specs.declared.built_in.BuiltIn.TheVariants as built_in
use Rattle.py_node.specs.declared.entry.SlotId.TheVariants as slot
use Rattle.py_node.specs.declared.task.PyNumberBinaryOp.TheVariants as op
use Rattle.vm_calls.proofs.AnswerKinds.Base.{So}
use Rattle.vm_calls.proofs.AnswerKinds.Columns.{gives_in, Column, slot-at-gives}

add-row : (b : BuiltIn) → So (gives_in Value (entry_among b slot.Add (own_attrs b)))
unfolding kind_of_native own_attrs names_of slot_names filling_of slot_fillings slot_place
add-row built_in.Object = tt
add-row b = tt

pub add-column : Column Value slot.Add
add-column = record { gives = add-row }

right-add-row : (b : BuiltIn) → So (gives_in Value (entry_among b slot.RightAdd (own_attrs b)))
unfolding kind_of_native own_attrs names_of slot_names filling_of slot_fillings slot_place
right-add-row built_in.Object = tt
right-add-row b = tt

pub right-add-column : Column Value slot.RightAdd
right-add-column = record { gives = right-add-row }

inplace-add-row : (b : BuiltIn) → So (gives_in Value (entry_among b slot.InplaceAdd (own_attrs b)))
unfolding kind_of_native own_attrs names_of slot_names filling_of slot_fillings slot_place
inplace-add-row built_in.Object = tt
inplace-add-row b = tt

pub inplace-add-column : Column Value slot.InplaceAdd
inplace-add-column = record { gives = inplace-add-row }

subtract-row : (b : BuiltIn) → So (gives_in Value (entry_among b slot.Subtract (own_attrs b)))
unfolding kind_of_native own_attrs names_of slot_names filling_of slot_fillings slot_place
subtract-row built_in.Object = tt
subtract-row b = tt

pub subtract-column : Column Value slot.Subtract
subtract-column = record { gives = subtract-row }

right-subtract-row : (b : BuiltIn) → So (gives_in Value (entry_among b slot.RightSubtract (own_attrs b)))
unfolding kind_of_native own_attrs names_of slot_names filling_of slot_fillings slot_place
right-subtract-row built_in.Object = tt
right-subtract-row b = tt

pub right-subtract-column : Column Value slot.RightSubtract
right-subtract-column = record { gives = right-subtract-row }

inplace-subtract-row : (b : BuiltIn) → So (gives_in Value (entry_among b slot.InplaceSubtract (own_attrs b)))
unfolding kind_of_native own_attrs names_of slot_names filling_of slot_fillings slot_place
inplace-subtract-row built_in.Object = tt
inplace-subtract-row b = tt

pub inplace-subtract-column : Column Value slot.InplaceSubtract
inplace-subtract-column = record { gives = inplace-subtract-row }

multiply-row : (b : BuiltIn) → So (gives_in Value (entry_among b slot.Multiply (own_attrs b)))
unfolding kind_of_native own_attrs names_of slot_names filling_of slot_fillings slot_place
multiply-row built_in.Object = tt
multiply-row b = tt

pub multiply-column : Column Value slot.Multiply
multiply-column = record { gives = multiply-row }

right-multiply-row : (b : BuiltIn) → So (gives_in Value (entry_among b slot.RightMultiply (own_attrs b)))
unfolding kind_of_native own_attrs names_of slot_names filling_of slot_fillings slot_place
right-multiply-row built_in.Object = tt
right-multiply-row b = tt

pub right-multiply-column : Column Value slot.RightMultiply
right-multiply-column = record { gives = right-multiply-row }

inplace-multiply-row : (b : BuiltIn) → So (gives_in Value (entry_among b slot.InplaceMultiply (own_attrs b)))
unfolding kind_of_native own_attrs names_of slot_names filling_of slot_fillings slot_place
inplace-multiply-row built_in.Object = tt
inplace-multiply-row b = tt

pub inplace-multiply-column : Column Value slot.InplaceMultiply
inplace-multiply-column = record { gives = inplace-multiply-row }

remainder-row : (b : BuiltIn) → So (gives_in Value (entry_among b slot.Remainder (own_attrs b)))
unfolding kind_of_native own_attrs names_of slot_names filling_of slot_fillings slot_place
remainder-row built_in.Object = tt
remainder-row b = tt

pub remainder-column : Column Value slot.Remainder
remainder-column = record { gives = remainder-row }

right-remainder-row : (b : BuiltIn) → So (gives_in Value (entry_among b slot.RightRemainder (own_attrs b)))
unfolding kind_of_native own_attrs names_of slot_names filling_of slot_fillings slot_place
right-remainder-row built_in.Object = tt
right-remainder-row b = tt

pub right-remainder-column : Column Value slot.RightRemainder
right-remainder-column = record { gives = right-remainder-row }

inplace-remainder-row : (b : BuiltIn) → So (gives_in Value (entry_among b slot.InplaceRemainder (own_attrs b)))
unfolding kind_of_native own_attrs names_of slot_names filling_of slot_fillings slot_place
inplace-remainder-row built_in.Object = tt
inplace-remainder-row b = tt

pub inplace-remainder-column : Column Value slot.InplaceRemainder
inplace-remainder-column = record { gives = inplace-remainder-row }

divmod-row : (b : BuiltIn) → So (gives_in Value (entry_among b slot.Divmod (own_attrs b)))
unfolding kind_of_native own_attrs names_of slot_names filling_of slot_fillings slot_place
divmod-row built_in.Object = tt
divmod-row b = tt

pub divmod-column : Column Value slot.Divmod
divmod-column = record { gives = divmod-row }

right-divmod-row : (b : BuiltIn) → So (gives_in Value (entry_among b slot.RightDivmod (own_attrs b)))
unfolding kind_of_native own_attrs names_of slot_names filling_of slot_fillings slot_place
right-divmod-row built_in.Object = tt
right-divmod-row b = tt

pub right-divmod-column : Column Value slot.RightDivmod
right-divmod-column = record { gives = right-divmod-row }

lshift-row : (b : BuiltIn) → So (gives_in Value (entry_among b slot.Lshift (own_attrs b)))
unfolding kind_of_native own_attrs names_of slot_names filling_of slot_fillings slot_place
lshift-row built_in.Object = tt
lshift-row b = tt

pub lshift-column : Column Value slot.Lshift
lshift-column = record { gives = lshift-row }

right-lshift-row : (b : BuiltIn) → So (gives_in Value (entry_among b slot.RightLshift (own_attrs b)))
unfolding kind_of_native own_attrs names_of slot_names filling_of slot_fillings slot_place
right-lshift-row built_in.Object = tt
right-lshift-row b = tt

pub right-lshift-column : Column Value slot.RightLshift
right-lshift-column = record { gives = right-lshift-row }

inplace-lshift-row : (b : BuiltIn) → So (gives_in Value (entry_among b slot.InplaceLshift (own_attrs b)))
unfolding kind_of_native own_attrs names_of slot_names filling_of slot_fillings slot_place
inplace-lshift-row built_in.Object = tt
inplace-lshift-row b = tt

pub inplace-lshift-column : Column Value slot.InplaceLshift
inplace-lshift-column = record { gives = inplace-lshift-row }

rshift-row : (b : BuiltIn) → So (gives_in Value (entry_among b slot.Rshift (own_attrs b)))
unfolding kind_of_native own_attrs names_of slot_names filling_of slot_fillings slot_place
rshift-row built_in.Object = tt
rshift-row b = tt

pub rshift-column : Column Value slot.Rshift
rshift-column = record { gives = rshift-row }

right-rshift-row : (b : BuiltIn) → So (gives_in Value (entry_among b slot.RightRshift (own_attrs b)))
unfolding kind_of_native own_attrs names_of slot_names filling_of slot_fillings slot_place
right-rshift-row built_in.Object = tt
right-rshift-row b = tt

pub right-rshift-column : Column Value slot.RightRshift
right-rshift-column = record { gives = right-rshift-row }

inplace-rshift-row : (b : BuiltIn) → So (gives_in Value (entry_among b slot.InplaceRshift (own_attrs b)))
unfolding kind_of_native own_attrs names_of slot_names filling_of slot_fillings slot_place
inplace-rshift-row built_in.Object = tt
inplace-rshift-row b = tt

pub inplace-rshift-column : Column Value slot.InplaceRshift
inplace-rshift-column = record { gives = inplace-rshift-row }

and-row : (b : BuiltIn) → So (gives_in Value (entry_among b slot.And (own_attrs b)))
unfolding kind_of_native own_attrs names_of slot_names filling_of slot_fillings slot_place
and-row built_in.Object = tt
and-row b = tt

pub and-column : Column Value slot.And
and-column = record { gives = and-row }

right-and-row : (b : BuiltIn) → So (gives_in Value (entry_among b slot.RightAnd (own_attrs b)))
unfolding kind_of_native own_attrs names_of slot_names filling_of slot_fillings slot_place
right-and-row built_in.Object = tt
right-and-row b = tt

pub right-and-column : Column Value slot.RightAnd
right-and-column = record { gives = right-and-row }

inplace-and-row : (b : BuiltIn) → So (gives_in Value (entry_among b slot.InplaceAnd (own_attrs b)))
unfolding kind_of_native own_attrs names_of slot_names filling_of slot_fillings slot_place
inplace-and-row built_in.Object = tt
inplace-and-row b = tt

pub inplace-and-column : Column Value slot.InplaceAnd
inplace-and-column = record { gives = inplace-and-row }

xor-row : (b : BuiltIn) → So (gives_in Value (entry_among b slot.Xor (own_attrs b)))
unfolding kind_of_native own_attrs names_of slot_names filling_of slot_fillings slot_place
xor-row built_in.Object = tt
xor-row b = tt

pub xor-column : Column Value slot.Xor
xor-column = record { gives = xor-row }

right-xor-row : (b : BuiltIn) → So (gives_in Value (entry_among b slot.RightXor (own_attrs b)))
unfolding kind_of_native own_attrs names_of slot_names filling_of slot_fillings slot_place
right-xor-row built_in.Object = tt
right-xor-row b = tt

pub right-xor-column : Column Value slot.RightXor
right-xor-column = record { gives = right-xor-row }

inplace-xor-row : (b : BuiltIn) → So (gives_in Value (entry_among b slot.InplaceXor (own_attrs b)))
unfolding kind_of_native own_attrs names_of slot_names filling_of slot_fillings slot_place
inplace-xor-row built_in.Object = tt
inplace-xor-row b = tt

pub inplace-xor-column : Column Value slot.InplaceXor
inplace-xor-column = record { gives = inplace-xor-row }

or-row : (b : BuiltIn) → So (gives_in Value (entry_among b slot.Or (own_attrs b)))
unfolding kind_of_native own_attrs names_of slot_names filling_of slot_fillings slot_place
or-row built_in.Object = tt
or-row b = tt

pub or-column : Column Value slot.Or
or-column = record { gives = or-row }

right-or-row : (b : BuiltIn) → So (gives_in Value (entry_among b slot.RightOr (own_attrs b)))
unfolding kind_of_native own_attrs names_of slot_names filling_of slot_fillings slot_place
right-or-row built_in.Object = tt
right-or-row b = tt

pub right-or-column : Column Value slot.RightOr
right-or-column = record { gives = right-or-row }

inplace-or-row : (b : BuiltIn) → So (gives_in Value (entry_among b slot.InplaceOr (own_attrs b)))
unfolding kind_of_native own_attrs names_of slot_names filling_of slot_fillings slot_place
inplace-or-row built_in.Object = tt
inplace-or-row b = tt

pub inplace-or-column : Column Value slot.InplaceOr
inplace-or-column = record { gives = inplace-or-row }

floor-divide-row : (b : BuiltIn) → So (gives_in Value (entry_among b slot.FloorDivide (own_attrs b)))
unfolding kind_of_native own_attrs names_of slot_names filling_of slot_fillings slot_place
floor-divide-row built_in.Object = tt
floor-divide-row b = tt

pub floor-divide-column : Column Value slot.FloorDivide
floor-divide-column = record { gives = floor-divide-row }

right-floor-divide-row : (b : BuiltIn) → So (gives_in Value (entry_among b slot.RightFloorDivide (own_attrs b)))
unfolding kind_of_native own_attrs names_of slot_names filling_of slot_fillings slot_place
right-floor-divide-row built_in.Object = tt
right-floor-divide-row b = tt

pub right-floor-divide-column : Column Value slot.RightFloorDivide
right-floor-divide-column = record { gives = right-floor-divide-row }

inplace-floor-divide-row : (b : BuiltIn) → So (gives_in Value (entry_among b slot.InplaceFloorDivide (own_attrs b)))
unfolding kind_of_native own_attrs names_of slot_names filling_of slot_fillings slot_place
inplace-floor-divide-row built_in.Object = tt
inplace-floor-divide-row b = tt

pub inplace-floor-divide-column : Column Value slot.InplaceFloorDivide
inplace-floor-divide-column = record { gives = inplace-floor-divide-row }

true-divide-row : (b : BuiltIn) → So (gives_in Value (entry_among b slot.TrueDivide (own_attrs b)))
unfolding kind_of_native own_attrs names_of slot_names filling_of slot_fillings slot_place
true-divide-row built_in.Object = tt
true-divide-row b = tt

pub true-divide-column : Column Value slot.TrueDivide
true-divide-column = record { gives = true-divide-row }

right-true-divide-row : (b : BuiltIn) → So (gives_in Value (entry_among b slot.RightTrueDivide (own_attrs b)))
unfolding kind_of_native own_attrs names_of slot_names filling_of slot_fillings slot_place
right-true-divide-row built_in.Object = tt
right-true-divide-row b = tt

pub right-true-divide-column : Column Value slot.RightTrueDivide
right-true-divide-column = record { gives = right-true-divide-row }

inplace-true-divide-row : (b : BuiltIn) → So (gives_in Value (entry_among b slot.InplaceTrueDivide (own_attrs b)))
unfolding kind_of_native own_attrs names_of slot_names filling_of slot_fillings slot_place
inplace-true-divide-row built_in.Object = tt
inplace-true-divide-row b = tt

pub inplace-true-divide-column : Column Value slot.InplaceTrueDivide
inplace-true-divide-column = record { gives = inplace-true-divide-row }

matrix-multiply-row : (b : BuiltIn) → So (gives_in Value (entry_among b slot.MatrixMultiply (own_attrs b)))
unfolding kind_of_native own_attrs names_of slot_names filling_of slot_fillings slot_place
matrix-multiply-row built_in.Object = tt
matrix-multiply-row b = tt

pub matrix-multiply-column : Column Value slot.MatrixMultiply
matrix-multiply-column = record { gives = matrix-multiply-row }

right-matrix-multiply-row : (b : BuiltIn) → So (gives_in Value (entry_among b slot.RightMatrixMultiply (own_attrs b)))
unfolding kind_of_native own_attrs names_of slot_names filling_of slot_fillings slot_place
right-matrix-multiply-row built_in.Object = tt
right-matrix-multiply-row b = tt

pub right-matrix-multiply-column : Column Value slot.RightMatrixMultiply
right-matrix-multiply-column = record { gives = right-matrix-multiply-row }

inplace-matrix-multiply-row : (b : BuiltIn) → So (gives_in Value (entry_among b slot.InplaceMatrixMultiply (own_attrs b)))
unfolding kind_of_native own_attrs names_of slot_names filling_of slot_fillings slot_place
inplace-matrix-multiply-row built_in.Object = tt
inplace-matrix-multiply-row b = tt

pub inplace-matrix-multiply-column : Column Value slot.InplaceMatrixMultiply
inplace-matrix-multiply-column = record { gives = inplace-matrix-multiply-row }

power-row : (b : BuiltIn) → So (gives_in Value (entry_among b slot.Power (own_attrs b)))
unfolding kind_of_native own_attrs names_of slot_names filling_of slot_fillings slot_place
power-row built_in.Object = tt
power-row b = tt

pub power-column : Column Value slot.Power
power-column = record { gives = power-row }

right-power-row : (b : BuiltIn) → So (gives_in Value (entry_among b slot.RightPower (own_attrs b)))
unfolding kind_of_native own_attrs names_of slot_names filling_of slot_fillings slot_place
right-power-row built_in.Object = tt
right-power-row b = tt

pub right-power-column : Column Value slot.RightPower
right-power-column = record { gives = right-power-row }

inplace-power-row : (b : BuiltIn) → So (gives_in Value (entry_among b slot.InplacePower (own_attrs b)))
unfolding kind_of_native own_attrs names_of slot_names filling_of slot_fillings slot_place
inplace-power-row built_in.Object = tt
inplace-power-row b = tt

pub inplace-power-column : Column Value slot.InplacePower
inplace-power-column = record { gives = inplace-power-row }

pub left-column : (o : PyNumberBinaryOp) → Column Value (operator_row o).1
unfolding operator_row operators
left-column op.Add = add-column
left-column op.Subtract = subtract-column
left-column op.Multiply = multiply-column
left-column op.Remainder = remainder-column
left-column op.Divmod = divmod-column
left-column op.Lshift = lshift-column
left-column op.Rshift = rshift-column
left-column op.And = and-column
left-column op.Xor = xor-column
left-column op.Or = or-column
left-column op.FloorDivide = floor-divide-column
left-column op.TrueDivide = true-divide-column
left-column op.MatrixMultiply = matrix-multiply-column

pub right-column : (o : PyNumberBinaryOp) → Column Value (operator_row o).2
unfolding operator_row operators
right-column op.Add = right-add-column
right-column op.Subtract = right-subtract-column
right-column op.Multiply = right-multiply-column
right-column op.Remainder = right-remainder-column
right-column op.Divmod = right-divmod-column
right-column op.Lshift = right-lshift-column
right-column op.Rshift = right-rshift-column
right-column op.And = right-and-column
right-column op.Xor = right-xor-column
right-column op.Or = right-or-column
right-column op.FloorDivide = right-floor-divide-column
right-column op.TrueDivide = right-true-divide-column
right-column op.MatrixMultiply = right-matrix-multiply-column

pub in-place-gives : (o : PyNumberBinaryOp) (w : PlainWorld) (a : PyObjectRef) → So (gives_in Value (slot_in_place w (operator_row o).3 a))
unfolding operator_row operators
in-place-gives op.Add w a = slot-at-gives Value slot.InplaceAdd inplace-add-column w a
in-place-gives op.Subtract w a = slot-at-gives Value slot.InplaceSubtract inplace-subtract-column w a
in-place-gives op.Multiply w a = slot-at-gives Value slot.InplaceMultiply inplace-multiply-column w a
in-place-gives op.Remainder w a = slot-at-gives Value slot.InplaceRemainder inplace-remainder-column w a
in-place-gives op.Divmod w a = tt
in-place-gives op.Lshift w a = slot-at-gives Value slot.InplaceLshift inplace-lshift-column w a
in-place-gives op.Rshift w a = slot-at-gives Value slot.InplaceRshift inplace-rshift-column w a
in-place-gives op.And w a = slot-at-gives Value slot.InplaceAnd inplace-and-column w a
in-place-gives op.Xor w a = slot-at-gives Value slot.InplaceXor inplace-xor-column w a
in-place-gives op.Or w a = slot-at-gives Value slot.InplaceOr inplace-or-column w a
in-place-gives op.FloorDivide w a = slot-at-gives Value slot.InplaceFloorDivide inplace-floor-divide-column w a
in-place-gives op.TrueDivide w a = slot-at-gives Value slot.InplaceTrueDivide inplace-true-divide-column w a
in-place-gives op.MatrixMultiply w a = slot-at-gives Value slot.InplaceMatrixMultiply inplace-matrix-multiply-column w a
