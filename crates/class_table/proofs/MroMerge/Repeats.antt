-- The base that stands twice.
use Rattle.class_table.proofs.Below.{ℕ, Bool, true, false, cond, List, [], Some, None, inl, inr, refl, sym, ap, subst, ◌∙◌, append_assoc, append-nil, both_ways, false_from_ne_true, has, Includes, Distinct, Includes-right, Includes-sides, Decides-has, IsFirstRepeat, repeat_past}
use Rattle.std.proofs.Common.{◌≡◌, ◌∷◌, ◌++◌}

Distinct-middle : (seen : List ℕ) (y : ℕ) (more : List ℕ) → Distinct (seen ++ y ∷ more) → Includes seen y → ⊥
Distinct-middle [] y more d h = h
Distinct-middle (z ∷ seen) y more d (inl e) = d.0 (Includes-right seen (y ∷ more) z (inl (sym e)))
Distinct-middle (z ∷ seen) y more d (inr h) = Distinct-middle seen y more d.1 h

Distinct-push : (seen : List ℕ) (y : ℕ) → Distinct seen → (Includes seen y → ⊥) → Distinct (seen ++ y ∷ [])
Distinct-push [] y d n = (λ h. h, tt)
Distinct-push (z ∷ seen) y d n = (apart, Distinct-push seen y d.1 (λ h. n (inr h)))
  where
    apart : Includes (seen ++ y ∷ []) z → ⊥
    apart h = elim (Includes-sides seen (y ∷ []) z h) [ inl a ↦ d.0 a | inr b ↦ elim b [ inl e ↦ n (inl (sym e)) | inr f ↦ f ] ]

fresh : (seen : List ℕ) (y : ℕ) → has seen y ≡ false → Includes seen y → ⊥
fresh seen y f h = both_ways _ f ((Decides-has seen y).1 h)

repeat-to : (seen xs : List ℕ) (x : ℕ) → Distinct seen → repeat_past seen xs ≡ Some x → IsFirstRepeat (seen ++ xs) x
repeat-to seen [] x d e = cc
repeat-to seen (y ∷ xs) x d e = go (has seen y) refl e (repeat-to (seen ++ y ∷ []) xs x)
  where
    here : (w : ℕ) → has seen w ≡ true → IsFirstRepeat (seen ++ w ∷ xs) w
    here w t = record { before = seen; after = xs; split = refl; distinct = d; again = (Decides-has seen w).0 t }

    go : (b : Bool) → has seen y ≡ b → cond b (Some y) (repeat_past (seen ++ y ∷ []) xs) ≡ Some x → (Distinct (seen ++ y ∷ []) → repeat_past (seen ++ y ∷ []) xs ≡ Some x → IsFirstRepeat ((seen ++ y ∷ []) ++ xs) x) → IsFirstRepeat (seen ++ y ∷ xs) x
    go true t k more = let i : y ≡ x = cc in let P : ℕ → Type 0 = λ w. IsFirstRepeat (seen ++ y ∷ xs) w in subst P i (here y t)
    go false t k more =
        let P : List ℕ → Type 0 = λ l. IsFirstRepeat l x in
        subst P (append_assoc seen (y ∷ []) xs) (more (Distinct-push seen y d (fresh seen y t)) k)

repeat-found : (seen more after : List ℕ) (x : ℕ) → Distinct (seen ++ more) → Includes (seen ++ more) x → repeat_past seen (more ++ x ∷ after) ≡ Some x
repeat-found seen [] after x d h =
    let P : List ℕ → Type 0 = λ l. Includes l x in
    ap (λ b. cond b (Some x) (repeat_past (seen ++ x ∷ []) after)) ((Decides-has seen x).1 (subst P (append-nil seen) h))
repeat-found seen (y ∷ more) after x d h =
    let P : List ℕ → Type 0 = λ l. Distinct l in
    let Q : List ℕ → Type 0 = λ l. Includes l x in
    let along : seen ++ y ∷ more ≡ (seen ++ y ∷ []) ++ more = sym (append_assoc seen (y ∷ []) more) in
    ap (λ b. cond b (Some y) (repeat_past (seen ++ y ∷ []) (more ++ x ∷ after))) (false_from_ne_true _ (λ t. Distinct-middle seen y more d ((Decides-has seen y).0 t)))
    ∙ repeat-found (seen ++ y ∷ []) more after x (subst P along d) (subst Q along h)

repeat-none : (seen xs : List ℕ) → Distinct seen → repeat_past seen xs ≡ None → Distinct (seen ++ xs)
repeat-none seen [] d e = let P : List ℕ → Type 0 = λ l. Distinct l in subst P (sym (append-nil seen)) d
repeat-none seen (y ∷ xs) d e = go (has seen y) refl e (repeat-none (seen ++ y ∷ []) xs)
  where
    go : (b : Bool) → has seen y ≡ b → cond b (Some y) (repeat_past (seen ++ y ∷ []) xs) ≡ None → (Distinct (seen ++ y ∷ []) → repeat_past (seen ++ y ∷ []) xs ≡ None → Distinct ((seen ++ y ∷ []) ++ xs)) → Distinct (seen ++ y ∷ xs)
    go true t k more = cc
    go false t k more =
        let P : List ℕ → Type 0 = λ l. Distinct l in
        subst P (append_assoc seen (y ∷ []) xs) (more (Distinct-push seen y d (fresh seen y t)) k)

pub first-repeat : (xs : List ℕ) (x : ℕ) → repeat_past [] xs ≡ Some x → IsFirstRepeat xs x
first-repeat xs x e = repeat-to [] xs x tt e

pub repeat-first : (xs : List ℕ) (x : ℕ) → IsFirstRepeat xs x → repeat_past [] xs ≡ Some x
repeat-first xs x r = ap (repeat_past []) r.split ∙ repeat-found [] r.before r.after x r.distinct r.again

pub none-repeats : (xs : List ℕ) → repeat_past [] xs ≡ None → Distinct xs
none-repeats xs e = repeat-none [] xs tt e

pub repeat-differs : (xs : List ℕ) (x : ℕ) → IsFirstRepeat xs x → Distinct xs → ⊥
repeat-differs xs x r d = let P : List ℕ → Type 0 = λ l. Distinct l in Distinct-middle r.before x r.after (subst P r.split d) r.again
