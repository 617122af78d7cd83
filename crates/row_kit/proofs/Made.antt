-- A native that makes an object ends with it.
use Rattle.row_kit.proofs.Below.{ℕ, Ok, sym, ap, ◌∙◌, ℤ, Result, Raised as Fault, PyObjectRef, Value, Datum, ANumber, PlainWorld, Said, Ends, with_node, next_node, value, World, Reading, Reads, plain, EndsAs, int_made}
use Rattle.std.proofs.Common.{◌≡◌}

-- what is said of a new object is so where it was made
pub made-ends : (said : Reading → PlainWorld → Said) (w new : World) (c : ℕ) (d : Datum) (r : PyObjectRef) → ((t : Reading) → said t (plain t w) ≡ Ends (with_node (plain t w) c d) (value (next_node (plain t w) c))) → ((t : Reading) → plain t new ≡ with_node (plain t w) c d) → ((t : Reading) → r ≡ next_node (plain t w) c) → ((t : Reading) → Reads t new → Reads t w) → EndsAs said w new (Ok (Value r))
made-ends said w new c d r says made number reads = λ t q.
    (reads t q, says t ∙ sym (ap (λ v. Ends v (value r)) (made t) ∙ ap (λ m. Ends (with_node (plain t w) c d) (value m)) (number t)))

-- a new number is made
pub int-ends : (w new : World) (n : Result ℤ Fault) (z : ℤ) (r : PyObjectRef) → n ≡ Ok z → ((t : Reading) → plain t new ≡ with_node (plain t w) 4 (ANumber z)) → ((t : Reading) → r ≡ next_node (plain t w) 4) → ((t : Reading) → Reads t new → Reads t w) → EndsAs (λ t u. int_made u n) w new (Ok (Value r))
int-ends w new n z r is made number reads = made-ends (λ t u. int_made u n) w new 4 (ANumber z) r (λ t. ap (int_made (plain t w)) is) made number reads
