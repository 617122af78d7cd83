-- The walk from holder to holder comes back, and gives a cycle.
use Rattle.order_check.proofs.Below.{ℕ, zero, suc, Bool, true, false, cond, eqb, List, [], length, None, inl, inr, refl, sym, subst, arith, eqb-true, eqb-false, both_ways, has, Includes, Distinct, heads, first_free, BeforeIn, IsChain, IsCycle, holder, up_to, walk, Includes-equal, distinct-fewer, Decides-has}
use Rattle.std.proofs.Common.{◌≡◌, ◌+◌, ◌≤◌, ◌∷◌}
use Rattle.order_check.proofs.Stuck.{stuck-heads, holder-before}

-- x before the first, and each before the next
abbrev pub Links : List (List ℕ) → ℕ → List ℕ → Type 0
Links ls x [] = Unit {0}
Links ls x (y ∷ ys) = BeforeIn ls x y × Links ls y ys

up_to-within : (x : ℕ) (xs : List ℕ) (z : ℕ) → Includes (up_to x xs) z → Includes xs z
up_to-within x [] z h = h
up_to-within x (y ∷ ys) z (inl e) = inl e
up_to-within x (y ∷ ys) z (inr h) = inr (go (eqb y x) h (up_to-within x ys z))
  where
    go : (b : Bool) → Includes (cond b [] (up_to x ys)) z → (Includes (up_to x ys) z → Includes ys z) → Includes ys z
    go true h more = absurd h
    go false h more = more h

up_to-distinct : (x : ℕ) (xs : List ℕ) → Distinct xs → Distinct (up_to x xs)
up_to-distinct x [] d = tt
up_to-distinct x (y ∷ ys) d = (λ h. d.0 (go (eqb y x) h), rest (eqb y x) (up_to-distinct x ys d.1))
  where
    go : (b : Bool) → Includes (cond b [] (up_to x ys)) y → Includes ys y
    go true h = absurd h
    go false h = up_to-within x ys y h

    rest : (b : Bool) → Distinct (up_to x ys) → Distinct (cond b [] (up_to x ys))
    rest true r = tt
    rest false r = r

other : (x y : ℕ) (ys : List ℕ) → eqb y x ≡ false → Includes (y ∷ ys) x → Includes ys x
other x y ys e (inl i) = absurd (eqb-false y x e i)
other x y ys e (inr h) = h

up_to-chain : (ls : List (List ℕ)) (x w y : ℕ) (ys : List ℕ) → Links ls y ys → Includes (y ∷ ys) x → BeforeIn ls x w → IsChain ls y (cond (eqb y x) [] (up_to x ys)) w
up_to-chain ls x w y [] l h b = go (eqb y x) refl
  where
    go : (c : Bool) → eqb y x ≡ c → IsChain ls y (cond c [] []) w
    go true e = let P : ℕ → Type 0 = λ v. BeforeIn ls v w in subst P (sym (eqb-true y x e)) b
    go false e = absurd (other x y [] e h)
up_to-chain ls x w y (z ∷ zs) l h b = go (eqb y x) refl (up_to-chain ls x w z zs l.1)
  where
    go : (c : Bool) → eqb y x ≡ c → (Includes (z ∷ zs) x → BeforeIn ls x w → IsChain ls z (cond (eqb z x) [] (up_to x zs)) w) → IsChain ls y (cond c [] (up_to x (z ∷ zs))) w
    go true e more = let P : ℕ → Type 0 = λ v. BeforeIn ls v w in subst P (sym (eqb-true y x e)) b
    go false e more = (l.0, more (other x y (z ∷ zs) e h) b)

up_to-cycle : (ls : List (List ℕ)) (x : ℕ) (seen : List ℕ) → Links ls x seen → Distinct seen → Includes seen x → IsCycle ls (up_to x seen)
up_to-cycle ls x [] l d h = h
up_to-cycle ls x (y ∷ ys) l d h = (up_to-distinct x (y ∷ ys) d, up_to-chain ls x y y ys l.1 h l.0)

pub walk-cycle : (n : ℕ) (ls : List (List ℕ)) (seen : List ℕ) (x : ℕ) → first_free ls ls ≡ None → Links ls x seen → Distinct seen → ((y : ℕ) → Includes seen y → Includes (heads ls) y) → Includes (heads ls) x → length (heads ls) ≤ n + length seen → IsCycle ls (walk n ls seen x)
unfolding walk
walk-cycle zero ls seen x stuck l d within h few = go (has seen x) refl
  where
    all : (y : ℕ) → Includes (x ∷ seen) y → Includes (heads ls) y
    all y (inl e) = Includes-equal (heads ls) x y e h
    all y (inr k) = within y k

    go : (b : Bool) → has seen x ≡ b → IsCycle ls (up_to x seen)
    go true e = up_to-cycle ls x seen l d ((Decides-has seen x).0 e)
    go false e =
        let most = distinct-fewer (x ∷ seen) (heads ls) (λ k. both_ways (has seen x) e ((Decides-has seen x).1 k), d) all in
        absurd (omega (arith, most, few))
walk-cycle (suc n) ls seen x stuck l d within h few = go (has seen x) refl (walk-cycle n ls (x ∷ seen) (holder x ls) stuck)
  where
    all : (y : ℕ) → Includes (x ∷ seen) y → Includes (heads ls) y
    all y (inl e) = Includes-equal (heads ls) x y e h
    all y (inr k) = within y k

    go : (b : Bool) → has seen x ≡ b → (Links ls (holder x ls) (x ∷ seen) → Distinct (x ∷ seen) → ((y : ℕ) → Includes (x ∷ seen) y → Includes (heads ls) y) → Includes (heads ls) (holder x ls) → length (heads ls) ≤ n + length (x ∷ seen) → IsCycle ls (walk n ls (x ∷ seen) (holder x ls))) → IsCycle ls (cond b (up_to x seen) (walk n ls (x ∷ seen) (holder x ls)))
    go true e more = up_to-cycle ls x seen l d ((Decides-has seen x).0 e)
    go false e more =
        let r = holder-before ls x (stuck-heads ls ls stuck x h) in
        more (r.1, l) (λ k. both_ways (has seen x) e ((Decides-has seen x).1 k), d) all r.0 (omega (arith, few))
