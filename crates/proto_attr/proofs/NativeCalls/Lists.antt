-- Lists of nodes without those in front.
use Rattle.proto_attr.proofs.Below.{Option, Some, None, subst, sym, ◌∙◌, suc, List, [], length, take, drop, refl, ap, arith, PyObjectRef, PlainWorld, Bindings, Said, with_one, with_two, with_get, Held, AreNodes, Holds}
use Rattle.std.proofs.Common.{◌++◌, ◌≡◌, ◌-◌, ◌∷◌}

-- the first argument, and the rest
pub rest-nodes : (w : Held) (rs : List PyObjectRef) → Holds w (AreNodes rs) → Holds w (AreNodes (drop 1 rs))
unfolding Holds
rest-nodes w [] h = h
rest-nodes w (r ∷ rs) h = λ i d l. h (suc i) d (omega arith)

take-all : {A : Type 0} (xs : List A) → take (length xs) xs ≡ xs
take-all [] = refl
take-all (x ∷ xs) = ap (λ ys. x ∷ ys) (take-all xs)

pub rest-is : (rs : List PyObjectRef) → take (length rs - 1) (drop 1 rs) ≡ drop 1 rs
rest-is [] = refl
rest-is (r ∷ rs) = let e : length (r ∷ rs) - 1 ≡ length rs = omega arith in ap (λ n. take n rs) e ∙ take-all rs

pub rest-hold : (w : Held) (rs : List PyObjectRef) → Holds w (AreNodes rs) → Holds w (AreNodes (take (length rs - 1) (drop 1 rs)))
rest-hold w rs h = subst (λ all. Holds w (AreNodes all)) (sym (rest-is rs)) (rest-nodes w rs h)

-- two are an object and a class
pub get-two : (w : PlainWorld) (rs : List PyObjectRef) (kw : Bindings) (go : PyObjectRef → Option PyObjectRef → Said) → length rs ≡ 2 → with_get w rs kw go ≡ with_two w rs kw (λ o c. go o (Some c))
get-two w [] kw go e = refl
get-two w (o ∷ []) kw go e = absurd (omega arith)
get-two w (o ∷ c ∷ []) kw go e = refl
get-two w (o ∷ c ∷ d ∷ rs) kw go e = refl

-- and else there is no class
pub get-one : (w : PlainWorld) (rs : List PyObjectRef) (kw : Bindings) (go : PyObjectRef → Option PyObjectRef → Said) → (length rs ≡ 2 → ⊥) → with_get w rs kw go ≡ with_one w rs kw (λ o. go o None)
get-one w [] kw go e = refl
get-one w (o ∷ []) kw go e = refl
get-one w (o ∷ c ∷ []) kw go e = absurd (e refl)
get-one w (o ∷ c ∷ d ∷ rs) kw go e = refl

after-two-nodes : (w : Held) (rs : List PyObjectRef) → Holds w (AreNodes rs) → Holds w (AreNodes (drop 2 rs))
unfolding Holds
after-two-nodes w [] h = h
after-two-nodes w (r ∷ []) h = λ i d l. absurd (omega (arith, l))
after-two-nodes w (r ∷ s ∷ rs) h = λ i d l. h (suc (suc i)) d (omega arith)

after-two : (rs : List PyObjectRef) → take (length rs - 2) (drop 2 rs) ≡ drop 2 rs
after-two [] = refl
after-two (r ∷ []) = refl
after-two (r ∷ s ∷ rs) = let e : length (r ∷ s ∷ rs) - 2 ≡ length rs = omega arith in ap (λ n. take n rs) e ∙ take-all rs

pub after-two-hold : (w : Held) (rs : List PyObjectRef) → Holds w (AreNodes rs) → Holds w (AreNodes (take (length rs - 2) (drop 2 rs)))
after-two-hold w rs h = subst (λ all. Holds w (AreNodes all)) (sym (after-two rs)) (after-two-nodes w rs h)

pub without-more : {A : Type 0} (xs : List A) → xs ++ [] ≡ xs
without-more [] = refl
without-more (x ∷ xs) = ap (λ ys. x ∷ ys) (without-more xs)
