-- The merge, a step at a time.
use Rattle.class_table.proofs.Below.{ℕ, zero, suc, true, false, cond, List, [], length, Option, Some, None, inl, inr, refl, sym, ap, ◌∙◌, arith, option_map, flat_map, both_ways, ranks, least_order, Includes, stands_past, first_free, are_empty, struck, after, merge, merged, length-without, other_way}
use Rattle.std.proofs.Common.{◌≡◌, ◌<◌, ◌≤◌, ◌∷◌, ◌++◌}
use Rattle.class_table.proofs.MroMerge.Struck.{flat-struck}
use Rattle.class_table.proofs.MroMerge.LeastMerge.{least_order-merge}
use Rattle.class_table.proofs.MroMerge.Merged.{merge-sound, merge-best, merge-none, first-some, free-to}

-- steps that are not needed change nothing
pub merge-fuel : (n m : ℕ) (ls : List (List ℕ)) → length (flat_map (λ l. l) ls) ≤ n → length (flat_map (λ l. l) ls) ≤ m → merge n ls ≡ merge m ls
merge-fuel n m ls a b = go (merge n ls) refl (merge m ls) refl
  where
    go : (r : Option (List ℕ)) → merge n ls ≡ r → (q : Option (List ℕ)) → merge m ls ≡ q → r ≡ q
    go None e None f = refl
    go None e (Some ys) f = absurd (merge-none n ls ys a e (merge-sound m ls ys f))
    go (Some xs) e None f = absurd (merge-none m ls xs b f (merge-sound n ls xs e))
    go (Some xs) e (Some ys) f = elim (merge-best n ls xs ys e (merge-sound m ls ys f)) [
      | inr i ↦ ap Some i
      | inl g ↦ elim (merge-best m ls ys xs f (merge-sound n ls xs e)) [ inr i ↦ ap Some (sym i) | inl h ↦ absurd (both_ways _ h (other_way (ranks ls ys) (ranks ls xs) g)) ]
    ]

pub merged-empty : (ls : List (List ℕ)) → are_empty ls ≡ true → merged ls ≡ Some []
unfolding merged merge
merged-empty ls e = go (length (flat_map (λ l. l) ls))
  where
    go : (n : ℕ) → merge n ls ≡ Some []
    go zero = ap (λ b. cond b (Some []) None) e
    go (suc n) = ap (λ b. cond b (Some []) (after (λ x. merge n (struck x ls)) (first_free ls ls))) e

pub struck-fewer : (x : ℕ) (ls : List (List ℕ)) → first_free ls ls ≡ Some x → length (flat_map (λ l. l) (struck x ls)) < length (flat_map (λ l. l) ls)
struck-fewer x ls f = let h = (first-some ls ls x f).1 in let a = ap length (flat-struck x ls) in let b = length-without x (flat_map (λ l. l) ls) h in omega (arith, a, b)

pub first-past : (x : ℕ) (ls : List (List ℕ)) → first_free ls ls ≡ Some x → stands_past x ls ≡ false
first-past x ls f = free-to x ls (first-some ls ls x f).0

pub merged-step : (ls : List (List ℕ)) (x : ℕ) → are_empty ls ≡ false → first_free ls ls ≡ Some x → merged ls ≡ option_map (λ xs. x ∷ xs) (merged (struck x ls))
unfolding merged merge
merged-step ls x e f = go (length (flat_map (λ l. l) ls)) (struck-fewer x ls f)
  where
    go : (n : ℕ) → length (flat_map (λ l. l) (struck x ls)) < n → merge n ls ≡ option_map (λ xs. x ∷ xs) (merge (length (flat_map (λ l. l) (struck x ls))) (struck x ls))
    go zero h = absurd (omega arith)
    go (suc n) h =
        ap (λ b. cond b (Some []) (after (λ x. merge n (struck x ls)) (first_free ls ls))) e
        ∙ ap (after (λ x. merge n (struck x ls))) f
        ∙ ap (option_map (λ xs. x ∷ xs)) (merge-fuel n (length (flat_map (λ l. l) (struck x ls))) (struck x ls) (omega arith) (omega arith))

pub merged-stuck : (ls : List (List ℕ)) → are_empty ls ≡ false → first_free ls ls ≡ None → merged ls ≡ None
unfolding merged merge
merged-stuck ls e f = go (length (flat_map (λ l. l) ls))
  where
    go : (n : ℕ) → merge n ls ≡ None
    go zero = ap (λ b. cond b (Some []) None) e
    go (suc n) = ap (λ b. cond b (Some []) (after (λ x. merge n (struck x ls)) (first_free ls ls))) e ∙ ap (after (λ x. merge n (struck x ls))) f

-- the least order, by the merge
pub least_order-merged : (c : ℕ) (bs : List ℕ) (ls : List (List ℕ)) → ((l : List ℕ) → Includes ls l → Includes l c → ⊥) → ((b : ℕ) → Includes bs b → (l : List ℕ) × Includes ls l × Includes l b) → least_order c bs ls ≡ option_map (λ xs. c ∷ xs) (merged (ls ++ bs ∷ []))
unfolding merged
least_order-merged c bs ls apart based = least_order-merge c bs ls apart based (length (flat_map (λ l. l) (ls ++ bs ∷ []))) (omega arith)
