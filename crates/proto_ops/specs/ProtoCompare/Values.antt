-- What a comparison of two objects gives.
use Rattle.proto_ops.specs.Below.{Bool, not, codes, PyComparisonOp, Lt, Gt, Ne, Eq, Le, Ge, Text}
use Rattle.proto_ops.specs.declared.proto_compare.values.PyArithmeticValue.{PyArithmeticValue}
use Rattle.proto_ops.specs.declared.proto_compare.values.PyArithmeticValue.TheVariants.{Implemented, NotImplemented}
use Rattle.proto_ops.specs.declared.proto_compare.values.ComparisonOperator.{ComparisonOperator}
use Rattle.proto_ops.specs.declared.proto_compare.values.ComparisonOperator.TheVariants as name

-- the opposite of what is told, where something is
abbrev pub opposite : PyArithmeticValue Bool → PyArithmeticValue Bool
opposite (Implemented b) = Implemented (not b)
opposite NotImplemented = NotImplemented

-- what a comparison gives, where whether the two are equal is told, if it is
abbrev pub by_equal : PyComparisonOp → PyArithmeticValue Bool → PyArithmeticValue Bool
by_equal Eq v = v
by_equal Ne v = opposite v
by_equal _ v = NotImplemented

-- the comparison of a name
abbrev pub comparison_of : ComparisonOperator → PyComparisonOp
comparison_of name.Less = Lt
comparison_of name.Greater = Gt
comparison_of name.NotEqual = Ne
comparison_of name.Equal = Eq
comparison_of name.LessOrEqual = Le
comparison_of name.GreaterOrEqual = Ge

-- the token of a comparison
abbrev pub token_of : PyComparisonOp → Text
token_of Lt = codes "<"
token_of Gt = codes ">"
token_of Ne = codes "!="
token_of Eq = codes "=="
token_of Le = codes "<="
token_of Ge = codes ">="
