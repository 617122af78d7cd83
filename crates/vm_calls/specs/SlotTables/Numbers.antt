-- The slots of numbers: which field of a table holds each, which each operator asks, and what fills the right ones.
use Rattle.vm_calls.specs.Below.{Bool, true, false, cond, Option, Some, None, find, SlotId, SlotEntry, PyNumberBinaryOp as Operator, OperatorRow, operators, operator_row, is_slot}
use Rattle.py_node.specs.declared.entry.SlotId.TheVariants as slot
use Rattle.py_node.specs.declared.task.PyNumberBinaryOp.TheVariants as operator
use Rattle.vm_calls.specs.declared.slot_tables.number.PyNumberMethods.{PyNumberMethods}
use Rattle.vm_calls.specs.declared.slot_tables.number.PyNumberSlots.{PyNumberSlots}
use Rattle.vm_calls.specs.declared.slot_tables.op.PyNumberBinaryOp.{PyNumberBinaryOp}
use Rattle.vm_calls.specs.declared.slot_tables.op.PyNumberBinaryOp.TheVariants as op
use Rattle.vm_calls.specs.declared.slot_tables.op.PyNumberTernaryOp.{PyNumberTernaryOp}
use Rattle.vm_calls.specs.declared.slot_tables.op.PyNumberTernaryOp.TheVariants as power

-- what a table has in a slot: the field of the slot's name
unfoldable pub number_entry : PyNumberSlots → SlotId → Option SlotEntry
number_entry t slot.Add = t.add
number_entry t slot.RightAdd = t.right_add
number_entry t slot.InplaceAdd = t.inplace_add
number_entry t slot.Subtract = t.subtract
number_entry t slot.RightSubtract = t.right_subtract
number_entry t slot.InplaceSubtract = t.inplace_subtract
number_entry t slot.Multiply = t.multiply
number_entry t slot.RightMultiply = t.right_multiply
number_entry t slot.InplaceMultiply = t.inplace_multiply
number_entry t slot.Remainder = t.remainder
number_entry t slot.RightRemainder = t.right_remainder
number_entry t slot.InplaceRemainder = t.inplace_remainder
number_entry t slot.Divmod = t.divmod
number_entry t slot.RightDivmod = t.right_divmod
number_entry t slot.Power = t.power
number_entry t slot.RightPower = t.right_power
number_entry t slot.InplacePower = t.inplace_power
number_entry t slot.Lshift = t.lshift
number_entry t slot.RightLshift = t.right_lshift
number_entry t slot.InplaceLshift = t.inplace_lshift
number_entry t slot.Rshift = t.rshift
number_entry t slot.RightRshift = t.right_rshift
number_entry t slot.InplaceRshift = t.inplace_rshift
number_entry t slot.And = t.and
number_entry t slot.RightAnd = t.right_and
number_entry t slot.InplaceAnd = t.inplace_and
number_entry t slot.Xor = t.xor
number_entry t slot.RightXor = t.right_xor
number_entry t slot.InplaceXor = t.inplace_xor
number_entry t slot.Or = t.or
number_entry t slot.RightOr = t.right_or
number_entry t slot.InplaceOr = t.inplace_or
number_entry t slot.FloorDivide = t.floor_divide
number_entry t slot.RightFloorDivide = t.right_floor_divide
number_entry t slot.InplaceFloorDivide = t.inplace_floor_divide
number_entry t slot.TrueDivide = t.true_divide
number_entry t slot.RightTrueDivide = t.right_true_divide
number_entry t slot.InplaceTrueDivide = t.inplace_true_divide
number_entry t slot.MatrixMultiply = t.matrix_multiply
number_entry t slot.RightMatrixMultiply = t.right_matrix_multiply
number_entry t slot.InplaceMatrixMultiply = t.inplace_matrix_multiply
number_entry t slot.Int = t.int
number_entry t slot.Index = t.index
number_entry t slot.Float = t.float
number_entry t slot.Negative = t.negative
number_entry t slot.Positive = t.positive
number_entry t slot.Absolute = t.absolute
number_entry t slot.Invert = t.invert
number_entry t slot.Boolean = t.boolean
number_entry t _ = None

-- what a class gives for a slot: the field of the slot's name
unfoldable pub method_entry : PyNumberMethods → SlotId → Option SlotEntry
method_entry t slot.Add = t.add
method_entry t slot.InplaceAdd = t.inplace_add
method_entry t slot.Subtract = t.subtract
method_entry t slot.InplaceSubtract = t.inplace_subtract
method_entry t slot.Multiply = t.multiply
method_entry t slot.InplaceMultiply = t.inplace_multiply
method_entry t slot.Remainder = t.remainder
method_entry t slot.InplaceRemainder = t.inplace_remainder
method_entry t slot.Divmod = t.divmod
method_entry t slot.Power = t.power
method_entry t slot.InplacePower = t.inplace_power
method_entry t slot.Lshift = t.lshift
method_entry t slot.InplaceLshift = t.inplace_lshift
method_entry t slot.Rshift = t.rshift
method_entry t slot.InplaceRshift = t.inplace_rshift
method_entry t slot.And = t.and
method_entry t slot.InplaceAnd = t.inplace_and
method_entry t slot.Xor = t.xor
method_entry t slot.InplaceXor = t.inplace_xor
method_entry t slot.Or = t.or
method_entry t slot.InplaceOr = t.inplace_or
method_entry t slot.FloorDivide = t.floor_divide
method_entry t slot.InplaceFloorDivide = t.inplace_floor_divide
method_entry t slot.TrueDivide = t.true_divide
method_entry t slot.InplaceTrueDivide = t.inplace_true_divide
method_entry t slot.MatrixMultiply = t.matrix_multiply
method_entry t slot.InplaceMatrixMultiply = t.inplace_matrix_multiply
method_entry t slot.Int = t.int
method_entry t slot.Index = t.index
method_entry t slot.Float = t.float
method_entry t slot.Negative = t.negative
method_entry t slot.Positive = t.positive
method_entry t slot.Absolute = t.absolute
method_entry t slot.Invert = t.invert
method_entry t slot.Boolean = t.boolean
method_entry t _ = None

-- the operator, whether it is in place or not
unfoldable pub operator_of : PyNumberBinaryOp → Operator
operator_of op.Add = operator.Add
operator_of op.Subtract = operator.Subtract
operator_of op.Multiply = operator.Multiply
operator_of op.Remainder = operator.Remainder
operator_of op.Divmod = operator.Divmod
operator_of op.Lshift = operator.Lshift
operator_of op.Rshift = operator.Rshift
operator_of op.And = operator.And
operator_of op.Xor = operator.Xor
operator_of op.Or = operator.Or
operator_of op.FloorDivide = operator.FloorDivide
operator_of op.TrueDivide = operator.TrueDivide
operator_of op.MatrixMultiply = operator.MatrixMultiply
operator_of op.InplaceAdd = operator.Add
operator_of op.InplaceSubtract = operator.Subtract
operator_of op.InplaceMultiply = operator.Multiply
operator_of op.InplaceRemainder = operator.Remainder
operator_of op.InplaceLshift = operator.Lshift
operator_of op.InplaceRshift = operator.Rshift
operator_of op.InplaceAnd = operator.And
operator_of op.InplaceXor = operator.Xor
operator_of op.InplaceOr = operator.Or
operator_of op.InplaceFloorDivide = operator.FloorDivide
operator_of op.InplaceTrueDivide = operator.TrueDivide
operator_of op.InplaceMatrixMultiply = operator.MatrixMultiply

-- whether an operator changes its left operand in place
unfoldable pub is_in_place : PyNumberBinaryOp → Bool
is_in_place op.Add = false
is_in_place op.Subtract = false
is_in_place op.Multiply = false
is_in_place op.Remainder = false
is_in_place op.Divmod = false
is_in_place op.Lshift = false
is_in_place op.Rshift = false
is_in_place op.And = false
is_in_place op.Xor = false
is_in_place op.Or = false
is_in_place op.FloorDivide = false
is_in_place op.TrueDivide = false
is_in_place op.MatrixMultiply = false
is_in_place _ = true

-- the slot of an operator that the left operand's class has
abbrev pub left_slot_of : PyNumberBinaryOp → Option SlotId
left_slot_of o = cond (is_in_place o) ((operator_row (operator_of o)).3) (Some ((operator_row (operator_of o)).1))

-- the slot of an operator that the right operand's class has: none in place
abbrev pub right_slot_of : PyNumberBinaryOp → Option SlotId
right_slot_of o = cond (is_in_place o) None (Some ((operator_row (operator_of o)).2))

-- the same of the power
abbrev pub left_power : PyNumberTernaryOp → SlotId
left_power power.Power = slot.Power
left_power power.InplacePower = slot.InplacePower

abbrev pub right_power : PyNumberTernaryOp → Option SlotId
right_power power.Power = Some slot.RightPower
right_power power.InplacePower = None

-- the left slot of an operator, for its row
abbrev pub left_of : SlotId → Option OperatorRow → SlotId
left_of s None = s
left_of s (Some r) = r.1

-- the slot whose method fills a slot: of the right slot of an operator its left slot, of each other the slot itself
unfoldable pub given_by : SlotId → SlotId
given_by slot.RightPower = slot.Power
given_by s = left_of s (find (λ r. is_slot r.2 s) operators)
