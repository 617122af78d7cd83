-- Lists have a merge exactly where they have no cycle.
use Rattle.order_check.proofs.Below.{ℕ, List, [], length, Option, Some, None, inl, refl, sym, subst, arith, heads, Includes, HasMerge, HasNoCycle, IsCycle, BeginsWithLeast, IsMergedOrCyclic, IsAnswer, left, walk, found_from, cycle_of}
use Rattle.std.proofs.Common.{◌≡◌, ◌≤◌, ◌∷◌}
use Rattle.order_check.proofs.Ordered.{merge-no_cycle}
use Rattle.order_check.proofs.Stuck.{left-stuck, left-merge, left-cycle}
use Rattle.order_check.proofs.Walked.{walk-cycle}
use Rattle.order_check.proofs.Turned.{turned-cycle, turned-least}

fewer_heads : (ls : List (List ℕ)) → length (heads ls) ≤ length ls
fewer_heads [] = omega arith
fewer_heads ([] ∷ ls) = omega (arith, fewer_heads ls)
fewer_heads ((x ∷ l) ∷ ls) = omega (arith, fewer_heads ls)

-- where no cycle is found there is a merge
abbrev Found : List (List ℕ) → Option (List ℕ) → Type 0
Found ls None = HasMerge ls
Found ls (Some c) = IsCycle ls c × BeginsWithLeast c

found_or_merged : (ls : List (List ℕ)) → Found ls (cycle_of ls)
unfolding cycle_of
found_or_merged ls = go (heads (left ls)) refl
  where
    go : (hs : List ℕ) → heads (left ls) ≡ hs → Found ls (found_from (left ls) hs)
    go [] e = left-merge ls e
    go (x ∷ hs) e =
        let P : List ℕ → Type 0 = λ l. Includes l x in
        let few = fewer_heads (left ls) in
        let c = walk-cycle (length (left ls)) (left ls) [] x (left-stuck ls) tt tt (λ y h. absurd h) (subst P (sym e) (inl refl)) (omega (arith, few)) in
        let k = left-cycle ls (walk (length (left ls)) (left ls) [] x) c in
        (turned-cycle ls (walk (length (left ls)) (left ls) [] x) k, turned-least ls (walk (length (left ls)) (left ls) [] x) k)

pub merged_or_cyclic : (ls : List (List ℕ)) → IsMergedOrCyclic ls
merged_or_cyclic ls = (merge-no_cycle ls, λ n. go n (cycle_of ls) (found_or_merged ls))
  where
    go : HasNoCycle ls → (o : Option (List ℕ)) → Found ls o → HasMerge ls
    go n None a = a
    go n (Some c) a = absurd (n c a.0)

pub cycle_of-answer : (ls : List (List ℕ)) → IsAnswer ls (cycle_of ls)
cycle_of-answer ls = go (cycle_of ls) (found_or_merged ls)
  where
    go : (o : Option (List ℕ)) → Found ls o → IsAnswer ls o
    go None a = merge-no_cycle ls a
    go (Some c) a = a
