-- Over the linearisation of one base the least order is the class before it.
use Rattle.order_check.proofs.Below.{ℕ, List, [], length, get_or, Some, inl, refl, sym, ap, ◌∙◌, arith, Vec, least_order, least_order-one_base, AreLinesOf, IsApart, rows}
use Rattle.std.proofs.Common.{◌≡◌, ◌<◌, ◌≤◌, ◌∷◌}

least_order-single : (c : ℕ) (bases line : List ℕ) → AreLinesOf bases (line ∷ []) → IsApart c (line ∷ []) → least_order c bases (line ∷ []) ≡ Some (c ∷ line)
least_order-single c [] line lines apart = absurd lines
least_order-single c (b ∷ []) line lines apart = least_order-one_base c b line lines.0 lines.1 (apart line (inl refl))
least_order-single c (b ∷ d ∷ bases) line lines apart = absurd lines.2

-- of the only linearisation, as the code holds it
pub single-order : (c : ℕ) (bases : List ℕ) (lines : List (Vec ℕ)) (line : Vec ℕ) → 1 ≤ length lines → length lines < 2 → line ≡ get_or lines 0 line → AreLinesOf bases (rows lines) → IsApart c (rows lines) → Some (c ∷ line.items) ≡ least_order c bases (rows lines)
single-order c bases [] line some one is begun apart = absurd (omega arith)
single-order c bases (l ∷ []) line some one is begun apart = ap (λ (v : Vec ℕ). Some (c ∷ v.items)) is ∙ sym (least_order-single c bases l.items begun apart)
single-order c bases (l ∷ m ∷ lines) line some one is begun apart = absurd (omega arith)
