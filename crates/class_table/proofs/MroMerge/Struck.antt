-- Lists of which a member is struck out.
use Rattle.class_table.proofs.Below.{ℕ, Bool, true, false, cond, not, eqb, List, [], inl, inr, refl, sym, ap, subst, ◌∙◌, flat_map, eq-eqb, ne_eqb, filter-append, has, rank, ranks, without, Includes, Distinct, Subsequence, struck, Includes-without, from_without, Subsequence-more, Decides-has}
use Rattle.std.proofs.Common.{◌≡◌, ◌∷◌, ◌++◌}

-- nothing to strike
pub without-none : (x : ℕ) (l : List ℕ) → (Includes l x → ⊥) → without x l ≡ l
without-none x [] n = refl
without-none x (y ∷ l) n =
    ap (λ b. cond (not b) (y ∷ without x l) (without x l)) (ne_eqb y x (λ e. n (inl e))) ∙ ap (λ r. y ∷ r) (without-none x l (λ h. n (inr h)))

pub without-head : (x : ℕ) (l : List ℕ) → (Includes l x → ⊥) → without x (x ∷ l) ≡ l
without-head x l n = ap (λ b. cond (not b) (x ∷ without x l) (without x l)) (eq-eqb x x refl) ∙ without-none x l n

pub Distinct-without : (x : ℕ) (l : List ℕ) → Distinct l → Distinct (without x l)
Distinct-without x [] d = tt
Distinct-without x (y ∷ l) d =
    elim (eqb y x) as (λ b. Distinct (cond (not b) (y ∷ without x l) (without x l))) [
      | true ↦ Distinct-without x l d.1
      | false ↦ (λ h. d.0 (from_without x y l h).0, Distinct-without x l d.1)
    ]

pub Subsequence-without : (x : ℕ) (l ys : List ℕ) → Subsequence l ys → Subsequence (without x l) (without x ys)
Subsequence-without x [] ys s = tt
Subsequence-without x (z ∷ l) [] s = absurd s
Subsequence-without x (z ∷ l) (y ∷ ys) (inl p) = go (Subsequence-without x l ys p.1)
  where
    step : (b : Bool) → Subsequence (without x l) (without x ys) → Subsequence (cond (not b) (z ∷ without x l) (without x l)) (cond (not b) (y ∷ without x ys) (without x ys))
    step true r = r
    step false r = inl (p.0, r)

    go : Subsequence (without x l) (without x ys) → Subsequence (without x (z ∷ l)) (without x (y ∷ ys))
    go r = let P : Bool → Type 0 = λ b. Subsequence (cond (not (eqb z x)) (z ∷ without x l) (without x l)) (cond (not b) (y ∷ without x ys) (without x ys)) in subst P (ap (λ w. eqb w x) p.0) (step (eqb z x) r)
Subsequence-without x (z ∷ l) (y ∷ ys) (inr s) =
    let r = Subsequence-without x (z ∷ l) ys s in
    elim (eqb y x) as (λ b. Subsequence (without x (z ∷ l)) (cond (not b) (y ∷ without x ys) (without x ys))) [ true ↦ r | false ↦ Subsequence-more y (without x (z ∷ l)) (without x ys) r ]

pub flat-struck : (x : ℕ) (ls : List (List ℕ)) → flat_map (λ l. l) (struck x ls) ≡ without x (flat_map (λ l. l) ls)
flat-struck x [] = refl
flat-struck x (l ∷ ls) = ap (λ r. without x l ++ r) (flat-struck x ls) ∙ sym (filter-append (λ y. not (eqb y x)) l (flat_map (λ l. l) ls))

pub struck-back : (x : ℕ) (ls : List (List ℕ)) (m : List ℕ) → Includes (struck x ls) m → (l : List ℕ) × Includes ls l × (without x l ≡ m)
struck-back x [] m h = absurd h
struck-back x (l ∷ ls) m (inl e) = (l, inl refl, e)
struck-back x (l ∷ ls) m (inr h) = let r = struck-back x ls m h in (r.0, inr r.1, r.2)

pub same_tests : (a b : Bool) → (a ≡ true → b ≡ true) → (b ≡ true → a ≡ true) → a ≡ b
same_tests true b f g = sym (f refl)
same_tests false true f g = g refl
same_tests false false f g = refl

has-without : (x z : ℕ) (l : List ℕ) → (z ≡ x → ⊥) → has (without x l) z ≡ has l z
has-without x z l n =
    same_tests _ _ (λ e. (Decides-has l z).1 (from_without x z l ((Decides-has (without x l) z).0 e)).0) (λ e. (Decides-has (without x l) z).1 (Includes-without x z l ((Decides-has l z).0 e) n))

rank-struck : (x z : ℕ) (ls : List (List ℕ)) → (z ≡ x → ⊥) → rank (struck x ls) z ≡ rank ls z
rank-struck x z [] n = refl
rank-struck x z (l ∷ ls) n = cc (has-without x z l n, rank-struck x z ls n)

-- the ranks of the others stay
pub ranks-struck : (x : ℕ) (ls : List (List ℕ)) (zs : List ℕ) → (Includes zs x → ⊥) → ranks (struck x ls) zs ≡ ranks ls zs
ranks-struck x ls [] n = refl
ranks-struck x ls (z ∷ zs) n =
    let a = rank-struck x z ls (λ e. n (inl e)) in
    let b = ranks-struck x ls zs (λ h. n (inr h)) in
    cc (a, b)
