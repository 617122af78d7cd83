-- The slots of the binary operators.
use Rattle.py_node.specs.Below.{Bool, List, Option, None, slice_index_or, list_any}
use Rattle.std.specs.Prelude.{◌||◌}
use denote.Enum.Declared.{tag_of}
use Rattle.py_node.specs.contracts.task.PyNumberBinaryOp.{the_type}
use Rattle.py_node.specs.declared.entry.SlotId.{SlotId}
use Rattle.py_node.specs.declared.entry.SlotId.TheVariants as slot
use Rattle.py_node.specs.declared.task.PyNumberBinaryOp.{PyNumberBinaryOp}
use Rattle.py_node.specs.declared.task.PyNumberBinaryOp.TheVariants as op
use Rattle.py_node.specs.declared.operator.TheConstants.{OPERATORS}
use Rattle.py_node.specs.Slots.{is_slot}

-- an operator, its slots for the left and for the right operand, and its slot in place, if it has one
abbrev pub OperatorRow : Type 0
OperatorRow = PyNumberBinaryOp × SlotId × SlotId × Option SlotId

unfoldable pub operators : List OperatorRow
operators = OPERATORS

-- the row of an operator
unfoldable pub operator_row : PyNumberBinaryOp → OperatorRow
operator_row o = slice_index_or operators (tag_of the_type o) (op.Add, slot.Add, slot.RightAdd, None)

-- whether a slot is that of an operator for its right operand
unfoldable pub is_right : SlotId → Bool
is_right s = list_any (λ r. is_slot r.2 s) operators

-- the same, of powers too
unfoldable pub is_reflected : SlotId → Bool
is_reflected s = is_slot s slot.RightPower || is_right s
