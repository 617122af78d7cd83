-- How a native ends that reads something first.
use Rattle.proto_attr.proofs.Below.{ℕ, Ok, sym, ap, ◌∙◌, PyObjectRef, Value, Datum, PlainWorld, Said, Ends, with_node, next_node, value, World, Reading, Reads, plain, EndsAs}
use Rattle.std.proofs.Common.{◌≡◌}

-- a native that makes an object of a class ends with it
pub ends-made : (said : Reading → PlainWorld → Said) (old new : World) (c : ℕ) (d : Reading → Datum) (r : PyObjectRef) → ((t : Reading) → Reads t old → said t (plain t old) ≡ Ends (with_node (plain t old) c (d t)) (value (next_node (plain t old) c))) → ((t : Reading) → plain t new ≡ with_node (plain t old) c (d t)) → ((t : Reading) → r ≡ next_node (plain t old) c) → ((t : Reading) → Reads t new → Reads t old) → EndsAs said old new (Ok (Value r))
ends-made said old new c d r says made number reads = λ t q.
    (reads t q, says t (reads t q) ∙ sym (ap (λ v. Ends v (value r)) (made t) ∙ ap (λ m. Ends (with_node (plain t old) c (d t)) (value m)) (number t)))
