-- The part of a name past its last dot is what the definition finds.
use Rattle.class_table.proofs.Below.{ℕ, zero, suc, inl, inr, true, cond, eqb, [], length, drop, refl, sym, ap, ◌∙◌, arith, slice_index_or, Decides-eqb, eqb_tells, Text, dot, part_from, last_part, IsLastPart}
use Rattle.std.proofs.Common.{◌≡◌, ◌<◌, ◌≤◌, ◌∷◌}

-- past the last dot the part stays
no-dot : (part x : Text) → ((i : ℕ) → i < length x → slice_index_or x i 0 ≡ dot → ⊥) → part_from part x ≡ part
no-dot part [] none = refl
no-dot part (c ∷ x) none = elim (eqb_tells c dot) [
  | inl p ↦ absurd (none 0 (omega arith) p.1)
  | inr p ↦ rw p.0 (no-dot part x (λ i l. none (suc i) (omega (arith, l))))
]

past-dot : (part x : Text) (i : ℕ) → i < length x → slice_index_or x i 0 ≡ dot → ((j : ℕ) → suc i ≤ j → j < length x → slice_index_or x j 0 ≡ dot → ⊥) → part_from part x ≡ drop (suc i) x
past-dot part [] i l at none = absurd (omega (arith, l))
past-dot part (c ∷ x) zero l at none =
    let same : eqb c dot ≡ true = (Decides-eqb c dot).1 at in
    rw same (no-dot x x (λ j k. none (suc j) (omega arith) (omega (arith, k))))
past-dot part (c ∷ x) (suc i) l at none =
    past-dot (cond (eqb c dot) x part) x i (omega (arith, l)) at (λ j from below. none (suc j) (omega (arith, from)) (omega (arith, below)))

pub last-part : (name part : Text) → IsLastPart name part → last_part name ≡ part
last-part name part p = elim p.past [
  | inl first ↦
      no-dot name name (λ i l. p.last i (omega (arith, first)) l) ∙ sym (p.text ∙ ap (λ i. drop i name) first)
  | inr dotted ↦
      past-dot name name dotted.0 dotted.2 dotted.3 (λ j from. p.last j (omega (arith, from, dotted.1)))
      ∙ sym (p.text ∙ ap (λ i. drop i name) dotted.1)
]
