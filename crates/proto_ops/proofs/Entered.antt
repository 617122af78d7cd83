-- The step of a sum of whole numbers is what its row says.
use Rattle.proto_ops.proofs.Below.{[], Some, Ok, sym, ap, ◌∙◌, PyObjectRef, Value, DoInt, ANumber, Ends, PlainWorld, datum_at, number_of, with_node, next_node, value, World, Reading, Reads, plain, End, ℤ, operator_say, sum_say, int_or_fault, total, operator_group, Sums, ends-follow}
use Rattle.std.proofs.Common.{◌≡◌, ◌∷◌}
use Rattle.py_node.specs.declared.entry.IntNative.TheVariants as int

-- the sum of two numbers is a new one
pub sum-made : (w new : World) (a b r : PyObjectRef) (x y z : ℤ) → ((t : Reading) → number_of (datum_at (plain t w) a) ≡ Some x) → ((t : Reading) → number_of (datum_at (plain t w) b) ≡ Some y) → total x y ≡ Some z → ((t : Reading) → plain t new ≡ with_node (plain t w) 4 (ANumber z)) → ((t : Reading) → r ≡ next_node (plain t w) 4) → ((t : Reading) → Reads t new → Reads t w) → Sums a b w new (End (Ok (Value r)))
unfolding operator_say
sum-made w new a b r x y z hx hy f made number reads =
    let row = λ (t : Reading) (u : PlainWorld). operator_say u (DoInt int.Add (a ∷ b ∷ []) []) in
    ends-follow operator_group row (λ t u. row t u []) w new (Ok (Value r)) (λ t q.
    let u = plain t w in
    let said : sum_say u (number_of (datum_at u a)) (number_of (datum_at u b)) [] ≡ Ends (with_node u 4 (ANumber z)) (value (next_node u 4)) =
    ap (λ m. sum_say u m (number_of (datum_at u b)) []) (hx t) ∙ ap (λ m. sum_say u (Some x) m []) (hy t) ∙ ap (λ o. int_or_fault u o []) f in
    (reads t q, said ∙ sym (ap (λ v. Ends v (value r)) (made t) ∙ ap (λ m. Ends (with_node u 4 (ANumber z)) (value m)) (number t))))
