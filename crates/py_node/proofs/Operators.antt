-- The table of operators has a row for each, at its place.
use Rattle.py_node.proofs.Below.{true, refl, nat_lt, the_type, PyNumberBinaryOp, Add, operators, operator_row}
use Rattle.std.proofs.Common.{◌≡◌, ◌<◌}
use denote.Enum.Declared.{tag_of}
use borrow.Author.Tests.{ltb-true}

below-test : (o : PyNumberBinaryOp) → nat_lt (tag_of the_type o) 13 ≡ true
below-test Add = refl
below-test _ = refl

pub below : (o : PyNumberBinaryOp) → tag_of the_type o < 13
below o = ltb-true _ _ (below-test o)

-- each row is that of the operator
in-place : (o : PyNumberBinaryOp) → (operator_row o).0 ≡ o
unfolding operators operator_row
in-place Add = refl
in-place _ = refl
