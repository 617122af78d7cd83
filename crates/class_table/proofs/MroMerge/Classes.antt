-- Classes and their numbers.
use Rattle.class_table.proofs.Below.{ℕ, false, cond, not, List, [], length, get_or, drop, inl, inr, refl, sym, ap, ◌∙◌, arith, Vec, eq-eqb, both_ways, map-append, PyTypeRef, has, without, unique, Includes, past_first, Decides-has, rows, heads, with_heads}
use Rattle.std.proofs.Common.{◌≡◌, ◌<◌, ◌∷◌, ◌++◌}
use Rattle.class_table.specs.MroMerge.Lists.{numbers}
use Rattle.class_table.proofs.MroMerge.Struck.{without-none}

pub same-class : (a b : PyTypeRef) → a.0 ≡ b.0 → a ≡ b
same-class a b e = let of_number : ℕ → PyTypeRef = λ n. record { 0 = n } in ap of_number e

pub rows-heads : (lists all seen : List (Vec PyTypeRef)) (last : Vec PyTypeRef) → all ≡ lists ++ last ∷ [] → numbers last.items ≡ unique (heads (rows seen)) → seen ≡ lists → rows all ≡ with_heads (rows lists)
rows-heads lists all seen last put copy same =
    ap rows put
    ∙ map-append (λ (v : Vec PyTypeRef). numbers v.items) lists (last ∷ [])
    ∙ ap (λ w. rows lists ++ w ∷ []) (copy ∙ ap (λ l. unique (heads (rows l))) same)

-- a class that stands past no head goes where it is the head
pub without-first : (ms : List PyTypeRef) (x : ℕ) (k : PyTypeRef) → 0 < length ms → k ≡ get_or ms 0 k → k.0 ≡ x → has (past_first (numbers ms)) x ≡ false → numbers (drop 1 ms) ≡ without x (numbers ms)
without-first [] x k l e i f = absurd (omega arith)
without-first (m ∷ ms) x k l e i f =
    let same : m.0 ≡ x = ap (λ (w : PyTypeRef). w.0) (sym e) ∙ i in
    sym (ap (λ b. cond (not b) (m.0 ∷ without x (numbers ms)) (without x (numbers ms))) (eq-eqb m.0 x same)
    ∙ without-none x (numbers ms) (λ h. both_ways _ f ((Decides-has (numbers ms) x).1 h)))

pub without-other : (ms : List PyTypeRef) (x : ℕ) (k : PyTypeRef) → 0 < length ms → k ≡ get_or ms 0 k → (k.0 ≡ x → ⊥) → has (past_first (numbers ms)) x ≡ false → numbers ms ≡ without x (numbers ms)
without-other [] x k l e n f = refl
without-other (m ∷ ms) x k l e n f = sym (without-none x (m.0 ∷ numbers ms) apart)
  where
    apart : Includes (m.0 ∷ numbers ms) x → ⊥
    apart (inl i) = n (ap (λ (w : PyTypeRef). w.0) e ∙ i)
    apart (inr h) = both_ways _ f ((Decides-has (numbers ms) x).1 h)

pub without-empty : (ms : List PyTypeRef) (x : ℕ) → length ms ≡ 0 → numbers ms ≡ without x (numbers ms)
without-empty [] x e = refl
without-empty (m ∷ ms) x e = absurd (omega (arith, e))
