-- What the tests of cycles decide.
use Rattle.order_check.proofs.Below.{ℕ, true, eqb, List, [], ap, Decides, false≢true, and_parts, Decides-eqb, Decides-and, Decides-or, has, Before, BeforeIn, IsChain, is_before, is_before_in, are_chained, Decides-has}
use Rattle.std.proofs.Common.{◌&&◌, ◌∷◌}

pub Decides-before : (l : List ℕ) (x y : ℕ) → Decides (is_before x y l) (Before l x y)
Decides-before [] x y = (λ e. absurd (false≢true e), λ h. absurd h)
Decides-before (z ∷ l) x y = Decides-or (eqb z x && has l y) (is_before x y l) (Decides-and (eqb z x) (has l y) (Decides-eqb z x) (Decides-has l y)) (Decides-before l x y)

pub Decides-before_in : (ls : List (List ℕ)) (x y : ℕ) → Decides (is_before_in x y ls) (BeforeIn ls x y)
Decides-before_in [] x y = (λ e. absurd (false≢true e), λ h. absurd h)
Decides-before_in (l ∷ ls) x y = Decides-or (is_before x y l) (is_before_in x y ls) (Decides-before l x y) (Decides-before_in ls x y)

pub Decides-chained : (ls : List (List ℕ)) (x : ℕ) (xs : List ℕ) (last : ℕ) → Decides (are_chained ls (x ∷ xs) last) (IsChain ls x xs last)
Decides-chained ls x [] last =
    let d = Decides-before_in ls x last in
    (λ e. d.0 (and_parts (is_before_in x last ls) true e).0, λ h. ap (λ b. b && true) (d.1 h))
Decides-chained ls x (y ∷ ys) last = Decides-and (is_before_in x y ls) (are_chained ls (y ∷ ys) last) (Decides-before_in ls x y) (Decides-chained ls y ys last)
