-- A free member can go first in a merge.
use Rattle.order_check.proofs.Below.{ℕ, false, cond, not, List, [], inl, inr, refl, sym, ap, subst, ◌∙◌, flat_map, eq-eqb, cases_eq, false≢true, has, without, Includes, Subsequence, past_first, IsMerge, struck, Includes-equal, Includes-map, from_without, Decides-has, without-none, flat-struck, Free}
use Rattle.std.proofs.Common.{◌≡◌, ◌∷◌}

unstruck : (x : ℕ) (ls : List (List ℕ)) (z : ℕ) → Includes (flat_map (λ l. l) (struck x ls)) z → Includes (flat_map (λ l. l) ls) z × (z ≡ x → ⊥)
unstruck x ls z h = from_without x z (flat_map (λ l. l) ls) (let P : List ℕ → Type 0 = λ l. Includes l z in subst P (flat-struck x ls) h)

-- a free member can go first
pub put-first : (x : ℕ) (ls : List (List ℕ)) (ys : List ℕ) → Free x ls → Includes (flat_map (λ l. l) ls) x → IsMerge (struck x ls) ys → IsMerge ls (x ∷ ys)
unfolding Free
put-first x ls ys f h m = record {
  distinct = (λ k. (unstruck x ls x (m.members_only x k)).1 refl, m.distinct);
  members_only = only;
  keeps = λ l k. keeps l (f l k) (m.keeps (without x l) (Includes-map (without x) ls l k));
}
  where
    only : (z : ℕ) → Includes (x ∷ ys) z → Includes (flat_map (λ l. l) ls) z
    only z (inl e) = Includes-equal (flat_map (λ l. l) ls) x z e h
    only z (inr k) = (unstruck x ls z (m.members_only z k)).0

    keeps : (l : List ℕ) → has (past_first l) x ≡ false → Subsequence (without x l) ys → Subsequence l (x ∷ ys)
    keeps [] e s = tt
    keeps (z ∷ l) e s =
        let none : Includes l x → ⊥ = λ k. false≢true (sym e ∙ (Decides-has l x).1 k) in
        elim (cases_eq z x) [
          | inl i ↦
              let P : List ℕ → Type 0 = λ w. Subsequence w ys in
              inl (i, subst P (ap (λ b. cond (not b) (z ∷ without x l) (without x l)) (eq-eqb z x i) ∙ without-none x l none) s)
          | inr n ↦
              let P : List ℕ → Type 0 = λ w. Subsequence w ys in
              inr (subst P (without-none x (z ∷ l) (λ k. elim k [ inl i ↦ n i | inr r ↦ none r ])) s)
        ]
