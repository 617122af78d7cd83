-- A line passes the test a member at a time exactly where it is the merge.
use Rattle.order_check.proofs.Below.{ℕ, Bool, true, false, cond, not, eqb, List, [], Option, Some, None, inl, inr, refl, sym, ap, ◌∙◌, option_map, eq-eqb, ne_eqb, eqb-true, cases_eq, and_parts, false≢true, has, without, Includes, first_free, are_empty, struck, merged, past, rest, is_same, is_led, Includes-left, Includes-right, Includes-sides, Decides-has, merged-empty, merged-stuck, merged-step}
use Rattle.std.proofs.Common.{◌≡◌, ◌&&◌, ◌∷◌, ◌++◌}
use Rattle.std.specs.Prelude.{◌↔◌}

empty-none : (all ls : List (List ℕ)) → are_empty ls ≡ true → first_free all ls ≡ None
empty-none all [] e = refl
empty-none all ([] ∷ ls) e = empty-none all ls e
empty-none all ((x ∷ m) ∷ ls) e = absurd (false≢true e)

-- what was seen grows by one

has-itself : (seen : List ℕ) (x y : ℕ) → y ≡ x → has (seen ++ x ∷ []) y ≡ true
has-itself seen x y i = (Decides-has (seen ++ x ∷ []) y).1 (Includes-right seen (x ∷ []) y (inl (sym i)))

alike : (a b : Bool) → (a ≡ true → b ≡ true) → (b ≡ true → a ≡ true) → a ≡ b
alike true b f g = sym (f refl)
alike false true f g = g refl
alike false false f g = refl

has-other : (seen : List ℕ) (x y : ℕ) → (y ≡ x → ⊥) → has (seen ++ x ∷ []) y ≡ has seen y
has-other seen x y n =
    alike _ _ (λ e. (Decides-has seen y).1 (back ((Decides-has (seen ++ x ∷ []) y).0 e))) (λ e. (Decides-has (seen ++ x ∷ []) y).1 (Includes-left seen (x ∷ []) y ((Decides-has seen y).0 e)))
  where
    back : Includes (seen ++ x ∷ []) y → Includes seen y
    back h = elim (Includes-sides seen (x ∷ []) y h) [ inl a ↦ a | inr b ↦ elim b [ inl e ↦ absurd (n (sym e)) | inr f ↦ absurd f ] ]

without-past : (x : ℕ) (seen u : List ℕ) → without x (past seen u) ≡ past (seen ++ x ∷ []) u
without-past x seen [] = refl
without-past x seen (y ∷ u) = elim (cases_eq y x) [
  | inl i ↦ both (has seen y) (eq-eqb y x i) (without-past x seen u) ∙ sym (ap (λ b. cond (not b) (y ∷ past (seen ++ x ∷ []) u) (past (seen ++ x ∷ []) u)) (has-itself seen x y i))
  | inr n ↦ neither (has seen y) (ne_eqb y x n) (without-past x seen u) ∙ sym (ap (λ b. cond (not b) (y ∷ past (seen ++ x ∷ []) u) (past (seen ++ x ∷ []) u)) (has-other seen x y n))
]
  where
    both : (a : Bool) → eqb y x ≡ true → without x (past seen u) ≡ past (seen ++ x ∷ []) u → without x (cond (not a) (y ∷ past seen u) (past seen u)) ≡ past (seen ++ x ∷ []) u
    both true e h = h
    both false e h = ap (λ b. cond (not b) (y ∷ without x (past seen u)) (without x (past seen u))) e ∙ h

    neither : (a : Bool) → eqb y x ≡ false → without x (past seen u) ≡ past (seen ++ x ∷ []) u → without x (cond (not a) (y ∷ past seen u) (past seen u)) ≡ cond (not a) (y ∷ past (seen ++ x ∷ []) u) (past (seen ++ x ∷ []) u)
    neither true e h = h
    neither false e h = ap (λ b. cond (not b) (y ∷ without x (past seen u)) (without x (past seen u))) e ∙ ap (λ w. y ∷ w) h

struck-rest : (x : ℕ) (seen : List ℕ) (ls : List (List ℕ)) → struck x (rest ls seen) ≡ rest ls (seen ++ x ∷ [])
struck-rest x seen [] = refl
struck-rest x seen (l ∷ ls) = let a = without-past x seen l in let b = struck-rest x seen ls in cc (a, b)

past-nil : (u : List ℕ) → past [] u ≡ u
past-nil [] = refl
past-nil (y ∷ u) = ap (λ w. y ∷ w) (past-nil u)

rest-nil : (ls : List (List ℕ)) → rest ls [] ≡ ls
rest-nil [] = refl
rest-nil (l ∷ ls) = let a = past-nil l in let b = rest-nil ls in cc (a, b)

same-some : (o : Option ℕ) (x : ℕ) → is_same o x ≡ true → o ≡ Some x
same-some None x e = absurd (false≢true e)
same-some (Some y) x e = ap Some (eqb-true y x e)

full : (ls : List (List ℕ)) (x : ℕ) → first_free ls ls ≡ Some x → are_empty ls ≡ false
full ls x f = go (are_empty ls) refl
  where
    go : (b : Bool) → are_empty ls ≡ b → b ≡ false
    go true e = let n = empty-none ls ls e in cc
    go false e = refl

led-merged : (ls : List (List ℕ)) (seen xs : List ℕ) → is_led ls seen xs ≡ true → merged (rest ls seen) ≡ Some xs
led-merged ls seen [] e = merged-empty (rest ls seen) e
led-merged ls seen (x ∷ xs) e =
    let p = and_parts (is_same (first_free (rest ls seen) (rest ls seen)) x) (is_led ls (seen ++ x ∷ []) xs) e in
    let f = same-some (first_free (rest ls seen) (rest ls seen)) x p.0 in
    merged-step (rest ls seen) x (full (rest ls seen) x f) f
    ∙ ap (option_map (λ xs. x ∷ xs)) (ap merged (struck-rest x seen ls) ∙ led-merged ls (seen ++ x ∷ []) xs p.1)

merged-led : (ls : List (List ℕ)) (seen xs : List ℕ) → merged (rest ls seen) ≡ Some xs → is_led ls seen xs ≡ true
merged-led ls seen [] m = go (are_empty (rest ls seen)) refl (first_free (rest ls seen) (rest ls seen)) refl
  where
    last : (x : ℕ) (r : Option (List ℕ)) → merged (rest ls seen) ≡ option_map (λ xs. x ∷ xs) r → are_empty (rest ls seen) ≡ true
    last x None q = cc
    last x (Some zs) q = cc

    go : (b : Bool) → are_empty (rest ls seen) ≡ b → (o : Option ℕ) → first_free (rest ls seen) (rest ls seen) ≡ o → are_empty (rest ls seen) ≡ true
    go true e o f = e
    go false e None f = let n = merged-stuck (rest ls seen) e f in cc
    go false e (Some x) f = last x (merged (struck x (rest ls seen))) (merged-step (rest ls seen) x e f)
merged-led ls seen (x ∷ xs) m = go (are_empty (rest ls seen)) refl (first_free (rest ls seen) (rest ls seen)) refl (merged-led ls (seen ++ x ∷ []) xs)
  where
    last : (y : ℕ) (r : Option (List ℕ)) → merged (struck y (rest ls seen)) ≡ r → merged (rest ls seen) ≡ option_map (λ xs. y ∷ xs) r → (merged (rest ls (seen ++ x ∷ [])) ≡ Some xs → is_led ls (seen ++ x ∷ []) xs ≡ true) → (is_same (Some y) x && is_led ls (seen ++ x ∷ []) xs) ≡ true
    last y None s q more = cc
    last y (Some zs) s q more =
        let both : Some (y ∷ zs) ≡ Some (x ∷ xs) = sym q ∙ m in
        let here : y ≡ x = cc in
        let there : zs ≡ xs = cc in
        let after_it : merged (rest ls (seen ++ x ∷ [])) ≡ Some xs = ap merged (sym (struck-rest x seen ls)) ∙ ap (λ w. merged (struck w (rest ls seen))) (sym here) ∙ s ∙ ap Some there in
        ap (λ b. b && is_led ls (seen ++ x ∷ []) xs) (eq-eqb y x here) ∙ more after_it

    go : (b : Bool) → are_empty (rest ls seen) ≡ b → (o : Option ℕ) → first_free (rest ls seen) (rest ls seen) ≡ o → (merged (rest ls (seen ++ x ∷ [])) ≡ Some xs → is_led ls (seen ++ x ∷ []) xs ≡ true) → (is_same o x && is_led ls (seen ++ x ∷ []) xs) ≡ true
    go true e o f more = let n = merged-empty (rest ls seen) e in cc
    go false e None f more = let n = merged-stuck (rest ls seen) e f in cc
    go false e (Some y) f more = last y (merged (struck y (rest ls seen))) refl (merged-step (rest ls seen) y e f) more

pub led_or_not : (ls : List (List ℕ)) (xs : List ℕ) (b : Bool) → b ≡ is_led ls [] xs → (b ≡ true) ↔ (merged ls ≡ Some xs)
led_or_not ls xs b e = (
  λ t. sym (ap merged (rest-nil ls)) ∙ led-merged ls [] xs (sym e ∙ t),
  λ m. e ∙ merged-led ls [] xs (ap merged (rest-nil ls) ∙ m),
)
