-- A quotient and what it leaves, as a pair that is made.
use Rattle.proto_ops.proofs.Below.{[], Ok, sym, ap, ◌∙◌, ℤ, PyObjectRef, Value, ANumber, ATuple, Ends, with_node, next_node, value, World, Reading, Reads, plain, EndsAs, quotient, remainder, divided, divided_by, pair_made}
use Rattle.std.proofs.Common.{◌≡◌, ◌∷◌}

abbrev Made : World → World → ℤ → PyObjectRef → Type 0
Made old new z r = (t : Reading) → (plain t new ≡ with_node (plain t old) 4 (ANumber z)) × (r ≡ next_node (plain t old) 4) × (Reads t new → Reads t old)

pub pair-ends : (w w1 w2 w3 : World) (x y q r : ℤ) (a b n : PyObjectRef) → quotient x y ≡ Ok q → remainder x y ≡ Ok r → Made w w1 q a → Made w1 w2 r b → ((t : Reading) → plain t w3 ≡ with_node (plain t w2) 7 (ATuple (a ∷ (b ∷ [])))) → ((t : Reading) → n ≡ next_node (plain t w2) 7) → ((t : Reading) → Reads t w3 → Reads t w2) → EndsAs (λ t u. divided u x y) w w3 (Ok (Value n))
pair-ends w w1 w2 w3 x y q r a b n hq hr first second made number reads = λ t k.
    let u = plain t w in
    let v = plain t w1 in
    let items = λ (m : PyObjectRef). ATuple (a ∷ (m ∷ [])) in
    let says : divided u x y ≡ pair_made (with_node u 4 (ANumber q)) (next_node u 4) r =
    ap (λ o. divided_by u o (remainder x y)) hq ∙ ap (divided_by u (Ok q)) hr in
    let one : pair_made (with_node u 4 (ANumber q)) (next_node u 4) r ≡ pair_made v a r =
    ap (λ p. pair_made p (next_node u 4) r) (sym (first t).0) ∙ ap (λ m. pair_made v m r) (sym (first t).1) in
    let two : pair_made v a r ≡ Ends (with_node (plain t w2) 7 (items b)) (value (next_node (plain t w2) 7)) =
    ap (λ p. Ends (with_node p 7 (items (next_node v 4))) (value (next_node p 7))) (sym (second t).0) ∙ ap (λ m. Ends (with_node (plain t w2) 7 (items m)) (value (next_node (plain t w2) 7))) (sym (second t).1) in
    let three : Ends (with_node (plain t w2) 7 (items b)) (value (next_node (plain t w2) 7)) ≡ Ends (plain t w3) (value n) =
    sym (ap (λ p. Ends p (value n)) (made t) ∙ ap (λ m. Ends (with_node (plain t w2) 7 (items b)) (value m)) (number t)) in
    ((first t).2 ((second t).2 (reads t k)), says ∙ one ∙ two ∙ three)
