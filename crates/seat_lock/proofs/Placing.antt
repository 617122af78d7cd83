-- Where the value is, after a change of a view that doesn't hold it.
use Rattle.seat_lock.proofs.Below.{ℕ, List, length, set, Option, sym, ap, ◌∙◌, subst, inl, inr, set_else, set_here, Turn, View, Holds, IsPlaced}
use Rattle.std.proofs.Common.{◌≡◌, ◌≢◌}
use mathlib.Core.Option.{some, none, some-ne-none, some-injective}
use mathlib.Core.Option as maybe
use mathlib.Core.Logic.{dite}
use native.Mathlib.Decide.{ℕ_discrete}
use lib.ListN.{get_elem?}
use Rattle.seat_lock.proofs.Totals.{each_set, one_view, below}

module _ {T E : Type 0} (stands : T → List (Turn E) → Type 0) (log : List (Turn E)) (homes : List (maybe.Option (Option T))) where
  pub placed_set : (views : List (View E)) (id : ℕ) (v w : View E) → get_elem? views id ≡ some v → ((t : ℕ) → ¬ (v.stage ≡ Holds t)) → ((t : ℕ) → ¬ (w.stage ≡ Holds t))
      → IsPlaced stands log homes views → IsPlaced stands log homes (set views id w)
  placed_set views id v w at not not' p =
      elim p [
        | inl h ↦ inl (
          h.0,
          h.1,
          h.2,
          each_set (λ (j : ℕ) (u : View E). (t : ℕ) → ¬ (u.stage ≡ Holds t)) views id w (λ j u apart e. h.3 j u e) not',
        )
        | inr h ↦
            let apart : h.1.0 ≢ id = λ same. not (length log) (ap (λ (u : View E). u.stage) (one_view views id v h.1.1 at (subst (λ (j : ℕ). get_elem? views j ≡ some h.1.1) same h.1.2)) ∙ h.1.3) in
            inr (h.0, (h.1.0, h.1.1, set_else views id h.1.0 w apart ∙ h.1.2, h.1.3))
      ]

  -- the stage stays
  pub placed_same : (views : List (View E)) (id : ℕ) (v w : View E) → get_elem? views id ≡ some v → w.stage ≡ v.stage → IsPlaced stands log homes views → IsPlaced stands log homes (set views id w)
  placed_same views id v w at same p =
      elim p [
        | inl h ↦ inl (
          h.0,
          h.1,
          h.2,
          each_set (λ (j : ℕ) (u : View E). (t : ℕ) → ¬ (u.stage ≡ Holds t)) views id w (λ j u apart e. h.3 j u e) (λ t e. h.3 id v at t (sym same ∙ e)),
        )
        | inr h ↦ inr (
          h.0,
          dite (ℕ_discrete h.1.0 id)
              (λ here. (id, w, set_here views id w (below views id v at), same ∙ (ap (λ (u : View E). u.stage) (one_view views id v h.1.1 at (subst (λ (j : ℕ). get_elem? views j ≡ some h.1.1) here h.1.2)) ∙ h.1.3)))
              (λ apart. (h.1.0, h.1.1, set_else views id h.1.0 w apart ∙ h.1.2, h.1.3)),
        )
      ]
