-- The six comparisons.
use Rattle.proto_ops.specs.Below.{Bool, true, false, Option, Some, None, Ordering, Less, Equal, Greater, is_eq, is_ne, is_lt, is_le, is_ge, is_gt, PyComparisonOp, Lt, Gt, Ne, Eq, Le, Ge, Known}
use Rattle.py_node.specs.declared.known.Known.TheVariants as known

-- the comparison that says the same of the operands the other way round
abbrev pub swapped : PyComparisonOp → PyComparisonOp
swapped Lt = Gt
swapped Gt = Lt
swapped Ne = Ne
swapped Eq = Eq
swapped Le = Ge
swapped Ge = Le

-- whether it holds of two things, by their order
abbrev pub holds_by : PyComparisonOp → Ordering → Bool
holds_by Lt r = is_lt r
holds_by Gt r = is_gt r
holds_by Ne r = is_ne r
holds_by Eq r = is_eq r
holds_by Le r = is_le r
holds_by Ge r = is_ge r

-- its special method
abbrev pub method_of : PyComparisonOp → Known
method_of Lt = known.Lt
method_of Gt = known.Gt
method_of Ne = known.Ne
method_of Eq = known.Eq
method_of Le = known.Le
method_of Ge = known.Ge

-- what two things that are equal decide alone
abbrev pub decided_by_equal : PyComparisonOp → Bool → Option Bool
decided_by_equal Eq true = Some true
decided_by_equal Ne true = Some false
decided_by_equal _ _ = None

-- whether they decide anything
abbrev pub AsksEqual : PyComparisonOp → Type 0
AsksEqual Eq = Unit {0}
AsksEqual Ne = Unit {0}
AsksEqual _ = ⊥

-- two things, the other way round
abbrev pub turned : Ordering → Ordering
turned Less = Greater
turned Equal = Equal
turned Greater = Less
