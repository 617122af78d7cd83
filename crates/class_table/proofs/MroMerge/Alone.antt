-- A line alone is its own merge.
use Rattle.class_table.proofs.Below.{ℕ, List, [], length, inl, inr, refl, sym, ap, subst, ◌∙◌, arith, Vec, PyTypeRef, Includes, Distinct, Subsequence, ranks, is_lexicographic, Includes-left, Includes-sides, distinct-fewer, Subsequence-itself, Subsequence-full, rows, with_heads, AreLines, IsMerge, IsLeastMerge}
use Rattle.std.proofs.Common.{◌≡◌, ◌∷◌, ◌++◌}
use Rattle.std.specs.Prelude.{get_or}
use Rattle.class_table.specs.MroMerge.Lists.{numbers}
use Rattle.class_table.proofs.MroMerge.Linearised.{itself}

abbrev only : ℕ → List ℕ → List (List ℕ)
only x l = with_heads ((x ∷ l) ∷ [])

inside : (x : ℕ) (l : List ℕ) (y : ℕ) → Includes ((x ∷ l) ++ x ∷ []) y → Includes (x ∷ l) y
inside x l y h = elim (Includes-sides (x ∷ l) (x ∷ []) y h) [ inl a ↦ a | inr (inl e) ↦ inl e | inr (inr n) ↦ absurd n ]

keeps : (x : ℕ) (l m : List ℕ) → Includes (only x l) m → Subsequence m (x ∷ l)
keeps x l m (inl e) = let P : List ℕ → Type 0 = λ w. Subsequence w (x ∷ l) in subst P e (Subsequence-itself (x ∷ l))
keeps x l m (inr (inl e)) = let P : List ℕ → Type 0 = λ w. Subsequence w (x ∷ l) in subst P e (inl (refl, tt))
keeps x l m (inr (inr n)) = absurd n

same : (x : ℕ) (l ys : List ℕ) → IsMerge (only x l) ys → x ∷ l ≡ ys
same x l ys m = Subsequence-full (x ∷ l) ys (m.keeps (x ∷ l) (inl refl)) (distinct-fewer ys (x ∷ l) m.distinct (λ y h. inside x l y (m.members_only y h)))

alone : (x : ℕ) (l : List ℕ) → Distinct (x ∷ l) → IsLeastMerge (only x l) (x ∷ l)
alone x l d = record {
  merge = record { distinct = d; members_only = λ y h. Includes-left (x ∷ l) (x ∷ []) y h; keeps = keeps x l };
  least = λ ys m. ap (λ w. is_lexicographic (ranks (only x l) (x ∷ l)) (ranks (only x l) w)) (sym (same x l ys m)) ∙ itself (ranks (only x l) (x ∷ l));
}

alone-line : (l : List ℕ) → AreLines (l ∷ []) → IsLeastMerge (with_heads (l ∷ [])) l
alone-line [] h = absurd h
alone-line (x ∷ l) h = alone x l h.0

pub alone-of : (lists : List (Vec PyTypeRef)) (line : Vec PyTypeRef) → length lists ≡ 1 → AreLines (rows lists) → line ≡ get_or lists 0 line → IsLeastMerge (with_heads (rows lists)) (numbers line.items)
alone-of [] line n h e = absurd (omega (arith, n))
alone-of (v ∷ []) line n h e = let P : Vec PyTypeRef → Type 0 = λ w. IsLeastMerge (with_heads (rows (v ∷ []))) (numbers w.items) in subst P (sym e) (alone-line (numbers v.items) h)
alone-of (v ∷ w ∷ lists) line n h e = absurd (omega (arith, n))
