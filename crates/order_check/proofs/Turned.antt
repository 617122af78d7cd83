-- A cycle that is turned is a cycle.
use Rattle.order_check.proofs.Below.{ℕ, Bool, true, false, cond, eqb, List, [], inl, inr, refl, sym, subst, append_assoc, append-nil, ltb, arith, eqb-true, eqb-false, ltb-true, ltb-false, Includes, Distinct, BeforeIn, IsChain, IsCycle, BeginsWithLeast, least_from, turned_from, turned, Includes-sides}
use Rattle.std.proofs.Common.{◌≡◌, ◌≤◌, ◌∷◌, ◌++◌}

chain-join : (ls : List (List ℕ)) (x : ℕ) (ws : List ℕ) (y z : ℕ) → IsChain ls x ws y → BeforeIn ls y z → IsChain ls x (ws ++ y ∷ []) z
chain-join ls x [] y z c b = (c, b)
chain-join ls x (w ∷ ws) y z c b = (c.0, chain-join ls w ws y z c.1 b)

distinct-last : (xs : List ℕ) (x : ℕ) → Distinct xs → (Includes xs x → ⊥) → Distinct (xs ++ x ∷ [])
distinct-last [] x d n = (λ h. h, tt)
distinct-last (y ∷ ys) x d n = (apart, distinct-last ys x d.1 (λ h. n (inr h)))
  where
    apart : Includes (ys ++ x ∷ []) y → ⊥
    apart h = elim (Includes-sides ys (x ∷ []) y h) [ inl a ↦ d.0 a | inr b ↦ elim b [ inl e ↦ n (inl (sym e)) | inr f ↦ f ] ]

cycle-once : (ls : List (List ℕ)) (x : ℕ) (xs : List ℕ) → IsCycle ls (x ∷ xs) → IsCycle ls (xs ++ x ∷ [])
cycle-once ls x [] c = c
cycle-once ls x (y ∷ ys) c = (distinct-last (y ∷ ys) x c.0.1 c.0.0, chain-join ls y ys x y c.1.1 c.1.0)

turned-cycle-from : (ls : List (List ℕ)) (m : ℕ) (front rest : List ℕ) → IsCycle ls (rest ++ front) → IsCycle ls (turned_from m front rest)
turned-cycle-from ls m front [] c = c
turned-cycle-from ls m front (y ∷ ys) c = go (eqb y m) (turned-cycle-from ls m (front ++ y ∷ []) ys)
  where
    go : (b : Bool) → (IsCycle ls (ys ++ (front ++ y ∷ [])) → IsCycle ls (turned_from m (front ++ y ∷ []) ys)) → IsCycle ls (cond b ((y ∷ ys) ++ front) (turned_from m (front ++ y ∷ []) ys))
    go true more = c
    go false more = more (let P : List ℕ → Type 0 = λ l. IsCycle ls l in subst P (append_assoc ys front (y ∷ [])) (cycle-once ls y (ys ++ front) c))

pub turned-cycle : (ls : List (List ℕ)) (c : List ℕ) → IsCycle ls c → IsCycle ls (turned c)
turned-cycle ls [] c = absurd c
turned-cycle ls (x ∷ xs) c = turned-cycle-from ls (least_from x xs) [] (x ∷ xs) (let P : List ℕ → Type 0 = λ l. IsCycle ls l in subst P (sym (append-nil (x ∷ xs))) c)

-- the least is there, and is below all

least-there : (m : ℕ) (xs : List ℕ) → Includes (m ∷ xs) (least_from m xs)
least-there m [] = inl refl
least-there m (y ∷ ys) = go (ltb y m) (least-there y ys) (least-there m ys)
  where
    go : (b : Bool) → Includes (y ∷ ys) (least_from y ys) → Includes (m ∷ ys) (least_from m ys) → Includes (m ∷ y ∷ ys) (least_from (cond b y m) ys)
    go true h k = inr h
    go false h (inl e) = inl e
    go false h (inr k) = inr (inr k)

least-below : (m : ℕ) (xs : List ℕ) (y : ℕ) → Includes (m ∷ xs) y → least_from m xs ≤ y
least-below m [] y (inl e) = omega (arith, e)
least-below m [] y (inr h) = absurd h
least-below m (z ∷ zs) y h = go (ltb z m) refl h (least-below z zs) (least-below m zs)
  where
    go : (b : Bool) → ltb z m ≡ b → Includes (m ∷ z ∷ zs) y → ((y : ℕ) → Includes (z ∷ zs) y → least_from z zs ≤ y) → ((y : ℕ) → Includes (m ∷ zs) y → least_from m zs ≤ y) → least_from (cond b z m) zs ≤ y
    go true e (inl i) f g = let a = ltb-true z m e in let b = f z (inl refl) in omega (arith, i)
    go true e (inr k) f g = f y k
    go false e (inl i) f g = g y (inl i)
    go false e (inr (inl i)) f g = let a = ltb-false z m e in let b = g m (inl refl) in omega (arith, i)
    go false e (inr (inr k)) f g = g y (inr k)

turned-least-from : (m : ℕ) (front rest : List ℕ) → Includes rest m → ((y : ℕ) → Includes (rest ++ front) y → m ≤ y) → BeginsWithLeast (turned_from m front rest)
turned-least-from m front [] h f = absurd h
turned-least-from m front (y ∷ ys) h f = go (eqb y m) refl h (turned-least-from m (front ++ y ∷ []) ys)
  where
    all : (z : ℕ) → Includes (ys ++ (front ++ y ∷ [])) z → m ≤ z
    all z k = elim (Includes-sides (ys ++ front) (y ∷ []) z (let P : List ℕ → Type 0 = λ l. Includes l z in subst P (sym (append_assoc ys front (y ∷ []))) k)) [
      | inl a ↦ f z (inr a)
      | inr b ↦ elim b [ inl e ↦ f z (inl e) | inr n ↦ absurd n ]
    ]

    go : (b : Bool) → eqb y m ≡ b → Includes (y ∷ ys) m → (Includes ys m → ((z : ℕ) → Includes (ys ++ (front ++ y ∷ [])) z → m ≤ z) → BeginsWithLeast (turned_from m (front ++ y ∷ []) ys)) → BeginsWithLeast (cond b ((y ∷ ys) ++ front) (turned_from m (front ++ y ∷ []) ys))
    go true e k more = λ z i. let a = eqb-true y m e in let b = f z (inr i) in omega (arith, a, b)
    go false e (inl i) more = absurd (eqb-false y m e i)
    go false e (inr k) more = more k all

pub turned-least : (ls : List (List ℕ)) (c : List ℕ) → IsCycle ls c → BeginsWithLeast (turned c)
turned-least ls [] c = c
turned-least ls (x ∷ xs) c = turned-least-from (least_from x xs) [] (x ∷ xs) (least-there x xs) (λ y h. least-below x xs y (let P : List ℕ → Type 0 = λ l. Includes l y in subst P (append-nil (x ∷ xs)) h))
