-- What the tests of orders decide.
use Rattle.class_model.proofs.Below.{ℕ, Bool, true, false, cond, not, eqb, List, [], inl, inr, refl, subst, Decides, eqb-true, eqb-false, false≢true, Decides-eqb, Decides-not, Decides-and, Decides-or, Decides-like, has, is_within, is_distinct, is_subsequence, are_subsequences, begins_with, members_of, is_order, Includes, Distinct, Subsequence, BeginsWith, IsOrder}
use Rattle.std.proofs.Common.{◌≡◌, ◌&&◌, ◌∷◌}
use Rattle.class_model.proofs.Held.{Subsequence-skip}

pub Decides-has : (ys : List ℕ) (x : ℕ) → Decides (has ys x) (Includes ys x)
Decides-has [] x = (λ e. absurd (false≢true e), λ h. absurd h)
Decides-has (y ∷ ys) x = Decides-or (eqb y x) (has ys x) (Decides-eqb y x) (Decides-has ys x)

-- what holds of the head and of each other member
each_of : {A : Type 0} (P : A → Type 0) (x : A) (xs : List A) → P x × ((z : A) → Includes xs z → P z) → (z : A) → Includes (x ∷ xs) z → P z
each_of P x xs p z (inl e) = subst P e p.0
each_of P x xs p z (inr h) = p.1 z h

Decides-within : (xs ys : List ℕ) → Decides (is_within xs ys) ((x : ℕ) → Includes xs x → Includes ys x)
Decides-within [] ys = (λ e x h. absurd h, λ h. refl)
Decides-within (x ∷ xs) ys =
    Decides-like (has ys x && is_within xs ys) (each_of (λ z. Includes ys z) x xs) (λ f. (f x (inl refl), λ z h. f z (inr h))) (Decides-and (has ys x) (is_within xs ys) (Decides-has ys x) (Decides-within xs ys))

pub Decides-distinct : (xs : List ℕ) → Decides (is_distinct xs) (Distinct xs)
Decides-distinct [] = (λ e. tt, λ h. refl)
Decides-distinct (x ∷ xs) = Decides-and (not (has xs x)) (is_distinct xs) (Decides-not (has xs x) (Decides-has xs x)) (Decides-distinct xs)

Decides-subsequence : (xs ys : List ℕ) → Decides (is_subsequence xs ys) (Subsequence xs ys)
Decides-subsequence [] ys = (λ e. tt, λ h. refl)
Decides-subsequence (x ∷ xs) [] = (λ e. absurd (false≢true e), λ h. absurd h)
Decides-subsequence (x ∷ xs) (y ∷ ys) = go (eqb x y) refl (Decides-subsequence xs ys) (Decides-subsequence (x ∷ xs) ys)
  where
    go : (b : Bool) → eqb x y ≡ b → Decides (is_subsequence xs ys) (Subsequence xs ys) → Decides (is_subsequence (x ∷ xs) ys) (Subsequence (x ∷ xs) ys) → Decides (cond b (is_subsequence xs ys) (is_subsequence (x ∷ xs) ys)) (Subsequence (x ∷ xs) (y ∷ ys))
    go true e there past = (λ h. inl (eqb-true x y e, there.0 h), λ s. there.1 (elim s [ inl p ↦ p.1 | inr r ↦ Subsequence-skip x xs ys r ]))
    go false e there past = (λ h. inr (past.0 h), λ s. past.1 (elim s [ inl p ↦ absurd (eqb-false x y e p.0) | inr r ↦ r ]))

Decides-subsequences : (ls : List (List ℕ)) (xs : List ℕ) → Decides (are_subsequences ls xs) ((l : List ℕ) → Includes ls l → Subsequence l xs)
Decides-subsequences [] xs = (λ e l h. absurd h, λ h. refl)
Decides-subsequences (l ∷ ls) xs =
    Decides-like (is_subsequence l xs && are_subsequences ls xs) (each_of (λ m. Subsequence m xs) l ls) (λ f. (f l (inl refl), λ m h. f m (inr h))) (Decides-and (is_subsequence l xs) (are_subsequences ls xs) (Decides-subsequence l xs) (Decides-subsequences ls xs))

Decides-begins : (c : ℕ) (xs : List ℕ) → Decides (begins_with c xs) (BeginsWith c xs)
Decides-begins c [] = (λ e. absurd (false≢true e), λ h. absurd h)
Decides-begins c (x ∷ xs) = Decides-eqb x c

pub Decides-order : (c : ℕ) (bases : List ℕ) (lines : List (List ℕ)) (xs : List ℕ) → Decides (is_order c bases lines xs) (IsOrder c bases lines xs)
Decides-order c bases lines xs =
    let parts = Decides-and _ _ (Decides-begins c xs) (Decides-and _ _ (Decides-distinct xs) (Decides-and _ _ (Decides-within xs (members_of c lines)) (Decides-and _ _ (Decides-within (members_of c lines) xs) (Decides-subsequences (bases ∷ lines) xs)))) in (
      λ e. let p = parts.0 e in record { begins = p.0; distinct = p.1.0; members_only = p.1.1.0; all_members = p.1.1.1.0; keeps_bases = p.1.1.1.1 bases (inl refl); keeps = λ l h. p.1.1.1.1 l (inr h) },
      λ o. parts.1 (o.begins, (o.distinct, (o.members_only, (o.all_members, each_of (λ m. Subsequence m xs) bases lines (o.keeps_bases, o.keeps))))),
    )
