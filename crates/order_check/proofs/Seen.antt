-- Lists past what was seen, at a place.
use Rattle.order_check.proofs.Below.{ℕ, Bool, true, false, cond, not, eqb, List, [], length, get_or, take, drop, None, refl, sym, ap, ◌∙◌, inl, inr, drop_more, cases_eq, ne_eqb, has, past, first_free, past_first, rest, is_same, is_led}
use Rattle.std.proofs.Common.{◌≡◌, ◌+◌, ◌<◌, ◌&&◌, ◌||◌, ◌∷◌, ◌++◌}

gone : (seen u : List ℕ) (k : ℕ) → has seen k ≡ true → has (past seen u) k ≡ false
gone seen [] k s = refl
gone seen (y ∷ u) k s = elim (cases_eq y k) [
  | inl i ↦ ap (λ b. has (cond (not b) (y ∷ past seen u) (past seen u)) k) (ap (has seen) i ∙ s) ∙ gone seen u k s
  | inr n ↦ apart (has seen y) (ne_eqb y k n) (gone seen u k s)
]
  where
    apart : (a : Bool) → eqb y k ≡ false → has (past seen u) k ≡ false → has (cond (not a) (y ∷ past seen u) (past seen u)) k ≡ false
    apart true e h = h
    apart false e h = ap (λ b. b || has (past seen u) k) e ∙ h

kept : (seen u : List ℕ) (k : ℕ) → has seen k ≡ false → has (past seen u) k ≡ has u k
kept seen [] k s = refl
kept seen (y ∷ u) k s = elim (cases_eq y k) [
  | inl i ↦ ap (λ b. has (cond (not b) (y ∷ past seen u) (past seen u)) k) (ap (has seen) i ∙ s) ∙ ap (λ b. eqb y k || b) (kept seen u k s)
  | inr n ↦ apart (has seen y) (ne_eqb y k n) (kept seen u k s)
]
  where
    apart : (a : Bool) → eqb y k ≡ false → has (past seen u) k ≡ has u k → has (cond (not a) (y ∷ past seen u) (past seen u)) k ≡ (eqb y k || has u k)
    apart true e h = h ∙ sym (ap (λ b. b || has u k) e)
    apart false e h = ap (λ b. eqb y k || b) h

-- past the first that was not seen
first-past : (list seen : List ℕ) (i k : ℕ) → i < length list → has seen (get_or list i 0) ≡ false → past seen (drop i list) ≡ past seen list → has (past_first (past seen list)) k ≡ has (past seen (drop (i + 1) list)) k
first-past list seen i k l s e =
    ap (λ w. has (past_first w) k) (sym e)
    ∙ ap (λ w. has (past_first (past seen w)) k) (drop_more list i 0 l)
    ∙ ap (λ b. has (past_first (cond (not b) (get_or list i 0 ∷ past seen (drop (i + 1) list)) (past seen (drop (i + 1) list)))) k) s

pub first-past-gone : (list seen : List ℕ) (i k : ℕ) → i < length list → has seen (get_or list i 0) ≡ false → past seen (drop i list) ≡ past seen list → has seen k ≡ true → has (past_first (past seen list)) k ≡ false
first-past-gone list seen i k l s e t = first-past list seen i k l s e ∙ gone seen (drop (i + 1) list) k t

pub first-past-kept : (list seen : List ℕ) (i k : ℕ) → i < length list → has seen (get_or list i 0) ≡ false → past seen (drop i list) ≡ past seen list → has seen k ≡ false → has (past_first (past seen list)) k ≡ has (drop (i + 1) list) k
first-past-kept list seen i k l s e t = first-past list seen i k l s e ∙ kept seen (drop (i + 1) list) k t

pub led-none : (ls : List (List ℕ)) (line : List ℕ) (i : ℕ) → i < length line → None ≡ first_free (rest ls (take i line)) (rest ls (take i line)) → false ≡ is_led ls (take i line) (drop i line)
led-none ls line i l f = sym (ap (is_led ls (take i line)) (drop_more line i 0 l) ∙ ap (λ o. is_same o (get_or line i 0) && is_led ls (take i line ++ get_or line i 0 ∷ []) (drop (i + 1) line)) (sym f))
