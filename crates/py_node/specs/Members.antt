-- The numbers of the kinds of members.
use Rattle.py_node.specs.Below.{ℕ}
use Rattle.py_node.specs.declared.payload.MemberKind.{MemberKind}
use Rattle.py_node.specs.declared.payload.MemberKind.TheVariants as kind

abbrev pub kind_number : MemberKind → ℕ
kind_number kind.Bool = 14
kind_number kind.ObjectEx = 16
