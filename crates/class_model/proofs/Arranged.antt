-- All orders are among the arrangements, so that the least of them is found.
use Rattle.class_model.proofs.Below.{ℕ, zero, suc, Bool, true, false, cond, List, [], map, filter, length, Option, Some, None, inl, inr, refl, sym, ap, arith, members_of, is_order, ranks, is_lexicographic, without, unique, arrangements, all_arrangements, lesser, least, least_order, Includes, Distinct, IsOrder, IsLeastOrder}
use Rattle.std.proofs.Common.{◌≡◌, ◌≤◌, ◌∷◌}
use Rattle.class_model.proofs.Held.{Includes-equal, Includes-flat_map, Includes-map, Includes-filter, from_filter, Includes-without, from_without, Includes-unique, from_unique, distinct-fewer}
use Rattle.class_model.proofs.Tests.{Decides-order}
use Rattle.class_model.proofs.Lexicographic.{least-none, least-first}

arranged : (n : ℕ) (ms xs : List ℕ) → Distinct xs → ((y : ℕ) → Includes xs y → Includes ms y) → ((y : ℕ) → Includes ms y → Includes xs y) → length xs ≤ n → Includes (arrangements n ms) xs
unfolding arrangements
arranged zero ms [] d to from few = inl refl
arranged zero ms (x ∷ xs) d to from few = absurd (omega arith)
arranged (suc n) [] [] d to from few = inl refl
arranged (suc n) [] (x ∷ xs) d to from few = absurd (to x (inl refl))
arranged (suc n) (m ∷ ms) [] d to from few = absurd (from m (inl refl))
arranged (suc n) (m ∷ ms) (x ∷ xs) d to from few =
    let rest = without x (m ∷ ms) in
    Includes-flat_map (λ z. map (λ zs. z ∷ zs) (arrangements n (without z (m ∷ ms)))) (m ∷ ms) x (x ∷ xs) (to x (inl refl)) (Includes-map (λ zs. x ∷ zs) (arrangements n rest) xs (arranged n rest xs d.1 (λ y h. Includes-without x y (m ∷ ms) (to y (inr h)) (λ e. d.0 (Includes-equal xs y x e h))) (λ y h. back y h) (omega arith)))
  where
    back : (y : ℕ) → Includes (without x (m ∷ ms)) y → Includes xs y
    back y h = let r = from_without x y (m ∷ ms) h in elim (from y r.0) [ inl e ↦ absurd (r.1 (sym e)) | inr k ↦ k ]

-- the orders that are among the arrangements
tried : ℕ → List ℕ → List (List ℕ) → List (List ℕ)
tried c bases lines = filter (is_order c bases lines) (all_arrangements (members_of c lines))

order-tried : (c : ℕ) (bases : List ℕ) (lines : List (List ℕ)) (xs : List ℕ) → IsOrder c bases lines xs → Includes (tried c bases lines) xs
unfolding all_arrangements tried
order-tried c bases lines xs o =
    let ms = members_of c lines in
    let to : (y : ℕ) → Includes xs y → Includes (unique ms) y = λ y h. Includes-unique ms y (o.members_only y h) in
    Includes-filter (is_order c bases lines) (all_arrangements ms) xs (arranged (length (unique ms)) (unique ms) xs o.distinct to (λ y h. o.all_members y (from_unique ms y h)) (distinct-fewer xs (unique ms) o.distinct to)) ((Decides-order c bases lines xs).1 o)

least-held : (key : List ℕ → List ℕ) (all : List (List ℕ)) (z : List ℕ) → least key all ≡ Some z → Includes all z
least-held key [] z e = cc
least-held key (a ∷ all) z e = go (least key all) (least-held key all) e
  where
    pick : (y : List ℕ) (b : Bool) → Includes all y → ◌≡◌ {A = Option (List ℕ)} (Some (cond b a y)) (Some z) → Includes (a ∷ all) z
    pick y true h e = inl cc
    pick y false h e = inr (Includes-equal all y z (cc) h)

    go : (o : Option (List ℕ)) → ((w : List ℕ) → o ≡ Some w → Includes all w) → lesser key a o ≡ Some z → Includes (a ∷ all) z
    go None f e = inl cc
    go (Some y) f e = pick y (is_lexicographic (key a) (key y)) (f y refl) e

-- what is found is an order
pub least_order-order : (c : ℕ) (bases : List ℕ) (lines : List (List ℕ)) (xs : List ℕ) → least_order c bases lines ≡ Some xs → IsOrder c bases lines xs
unfolding least_order
least_order-order c bases lines xs e =
    let all = all_arrangements (members_of c lines) in
    (Decides-order c bases lines xs).0 (from_filter (is_order c bases lines) all xs (least-held (ranks lines) (filter (is_order c bases lines) all) xs e)).1

-- and of all orders it has the least list of ranks
pub least_order-least : (c : ℕ) (bases : List ℕ) (lines : List (List ℕ)) (xs : List ℕ) → least_order c bases lines ≡ Some xs → IsLeastOrder c bases lines xs
unfolding least_order tried
least_order-least c bases lines xs e = record {
  order = least_order-order c bases lines xs e;
  least = λ ys o. least-first (ranks lines) (tried c bases lines) xs e ys (order-tried c bases lines ys o);
}

-- an order is found where there is one
pub least_order-none : (c : ℕ) (bases : List ℕ) (lines : List (List ℕ)) (xs : List ℕ) → least_order c bases lines ≡ None → IsOrder c bases lines xs → ⊥
unfolding least_order tried
least_order-none c bases lines xs e o = least-none (ranks lines) (tried c bases lines) e xs (order-tried c bases lines xs o)

-- the one order is the least
pub least_order-only : (c : ℕ) (bases : List ℕ) (lines : List (List ℕ)) (xs : List ℕ) → IsOrder c bases lines xs → ((ys : List ℕ) → IsOrder c bases lines ys → ys ≡ xs) → least_order c bases lines ≡ Some xs
least_order-only c bases lines xs o only = go (least_order c bases lines) refl
  where
    go : (r : Option (List ℕ)) → least_order c bases lines ≡ r → r ≡ Some xs
    go None e = absurd (least_order-none c bases lines xs e o)
    go (Some ys) e = ap Some (only ys (least_order-order c bases lines ys e))
