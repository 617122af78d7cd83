-- How a comparison goes on where one operand's class says nothing.
use Rattle.proto_ops.proofs.Below.{[], true, false, cond, Ok, refl, ap, PyObjectRef, Value, Truth, PyComparisonOp, Ask, PlainWorld, Answered, Told, Row, end, value, is_not_implemented, or_else, plain, World, First, Second, Ordered, Equal, swapped, compare_group, compare_stands, other_asked, asks-follow}
use Rattle.std.proofs.Common.{◌≡◌, ◌∷◌}
use Rattle.py_node.specs.declared.protocol.CompareTask.TheVariants as compare
use Rattle.py_node.specs.declared.task.Task.TheVariants as task
use Rattle.proto_ops.specs.ProtoCompare.Rows.{Resumes}

goes-on : (u : PlainWorld) (x : PyObjectRef) (go : Row) (more : Told) → is_not_implemented x ≡ true → or_else u (value x) go more ≡ go more
goes-on u x go more e = ap (λ c. cond c go (end u (value x)) more) e

-- the left operand is asked after the right one, and the right one after the left one
pub asks-left : (w : World) (a b x : PyObjectRef) (o : PyComparisonOp) → is_not_implemented x ≡ true → Resumes (First true a b o) (Ok (Value x)) w w (Ask (task.Compare (compare.Cmp a b o)) (Second a b o))
asks-left w a b x o e =
    asks-follow compare_group (λ t. compare_stands t (First true a b o) (value x)) (λ t u. compare_stands t (First true a b o) (value x) u []) w w [] (task.Compare (compare.Cmp a b o)) (Second a b o)
    (λ t q. (q, goes-on (plain t w) x (other_asked (plain t w) true a b o) [] e)) (λ t u s more. goes-on u x (other_asked u true a b o) (Answered s ∷ more) e)

pub asks-right : (w : World) (a b x : PyObjectRef) (o : PyComparisonOp) → is_not_implemented x ≡ true → Resumes (First false a b o) (Ok (Value x)) w w (Ask (task.Compare (compare.Cmp b a (swapped o))) (Second a b o))
asks-right w a b x o e =
    asks-follow compare_group (λ t. compare_stands t (First false a b o) (value x)) (λ t u. compare_stands t (First false a b o) (value x) u []) w w [] (task.Compare (compare.Cmp b a (swapped o))) (Second a b o)
    (λ t q. (q, goes-on (plain t w) x (other_asked (plain t w) false a b o) [] e)) (λ t u s more. goes-on u x (other_asked u false a b o) (Answered s ∷ more) e)

-- items that are not so ordered are asked whether they are equal
pub asks-equal : (w : World) (a b : PyObjectRef) → Resumes (Ordered a b) (Ok (Truth false)) w w (Ask (task.Compare (compare.BoolEq a b)) Equal)
asks-equal w a b = λ t r. (r, (refl, refl, λ v s more. refl))
