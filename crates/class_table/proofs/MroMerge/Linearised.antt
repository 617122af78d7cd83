-- What is merged is the least merge, and merges with the same ranks are the same.
use Rattle.class_table.proofs.Below.{ℕ, suc, Bool, true, false, cond, List, [], length, Option, Some, None, inl, inr, refl, sym, ap, subst, ◌∙◌, arith, both_ways, cases_Bool, has, rank, ranks, is_lexicographic, Includes, past_first, Includes-equal, Includes-sides, Decides-has, other_way, members, IsMerge, IsLeastMerge, HasNoMerge, DifferByRanks, struck, merged}
use Rattle.std.proofs.Common.{◌≡◌, ◌∷◌}
use Rattle.class_table.proofs.MroMerge.Struck.{ranks-struck}
use Rattle.class_table.proofs.MroMerge.Merged.{Free, first-free, struck-rest, merge-sound, merge-best, merge-none}

pub itself : (xs : List ℕ) → is_lexicographic xs xs ≡ true
itself xs = elim (cases_Bool (is_lexicographic xs xs)) [ inl t ↦ t | inr f ↦ other_way xs xs f ]

pub least-merge : (ls : List (List ℕ)) (xs : List ℕ) → merged ls ≡ Some xs → IsLeastMerge ls xs
unfolding merged
least-merge ls xs e = record { merge = merge-sound (length (members ls)) ls xs e; least = least }
  where
    least : (ys : List ℕ) → IsMerge ls ys → is_lexicographic (ranks ls xs) (ranks ls ys) ≡ true
    least ys m = elim (merge-best (length (members ls)) ls xs ys e m) [
      | inl f ↦ other_way (ranks ls ys) (ranks ls xs) f
      | inr i ↦ ap (λ w. is_lexicographic (ranks ls xs) (ranks ls w)) (sym i) ∙ itself (ranks ls xs)
    ]

pub none-merge : (ls : List (List ℕ)) → merged ls ≡ None → HasNoMerge ls
unfolding merged
none-merge ls e xs m = merge-none (length (members ls)) ls xs (omega arith) e m

pub merged-least : (ls : List (List ℕ)) (xs : List ℕ) → IsLeastMerge ls xs → merged ls ≡ Some xs
unfolding merged
merged-least ls xs l = go (merged ls) refl
  where
    go : (r : Option (List ℕ)) → merged ls ≡ r → r ≡ Some xs
    go None e = absurd (none-merge ls e xs l.merge)
    go (Some ys) e = elim (merge-best (length (members ls)) ls ys xs e l.merge) [
      | inl f ↦ absurd (both_ways _ f (l.least ys (merge-sound (length (members ls)) ls ys e)))
      | inr i ↦ ap Some i
    ]

pub merged-none : (ls : List (List ℕ)) → HasNoMerge ls → merged ls ≡ None
unfolding merged
merged-none ls n = go (merged ls) refl
  where
    go : (r : Option (List ℕ)) → merged ls ≡ r → r ≡ None
    go None e = refl
    go (Some ys) e = absurd (n ys (merge-sound (length (members ls)) ls ys e))

head-of : (l : List ℕ) (x y : ℕ) → has (past_first l) x ≡ false → has (past_first l) y ≡ false → has l x ≡ true → has l y ≡ true → x ≡ y
head-of [] x y f g a b = cc
head-of (z ∷ l) x y f g a b = let p = (Decides-has (z ∷ l) x).0 a in let q = (Decides-has (z ∷ l) y).0 b in sym (first x f p) ∙ first y g q
  where
    first : (w : ℕ) → has l w ≡ false → Includes (z ∷ l) w → z ≡ w
    first w n (inl e) = e
    first w n (inr h) = absurd (both_ways _ n ((Decides-has l w).1 h))

-- of the free members each rank has one
free-same : (ls : List (List ℕ)) (x y : ℕ) → Free x ls → Free y ls → Includes (members ls) x → rank ls x ≡ rank ls y → x ≡ y
unfolding Free
free-same [] x y f g h e = absurd h
free-same (l ∷ ls) x y f g h e = go (has l x) refl (has l y) refl e (free-same ls x y (λ m i. f m (inr i)) (λ m i. g m (inr i)))
  where
    go : (a : Bool) → has l x ≡ a → (b : Bool) → has l y ≡ b → cond a 0 (suc (rank ls x)) ≡ cond b 0 (suc (rank ls y)) → (Includes (members ls) x → rank ls x ≡ rank ls y → x ≡ y) → x ≡ y
    go true p true q k more = head-of l x y (f l (inl refl)) (g l (inl refl)) p q
    go true p false q k more = cc
    go false p true q k more = cc
    go false p false q k more =
        elim (Includes-sides l (members ls) x h) [
          | inl a ↦ absurd (both_ways _ p ((Decides-has l x).1 a))
          | inr b ↦ more b cc
        ]

pub same_ranks : (ls : List (List ℕ)) → DifferByRanks ls
same_ranks ls [] [] m n e = refl
same_ranks ls [] (y ∷ ys) m n e = cc
same_ranks ls (x ∷ xs) [] m n e = cc
same_ranks ls (x ∷ xs) (y ∷ ys) m n e =
    let i : x ≡ y = free-same ls x y (first-free ls x xs m) (first-free ls y ys n) (m.members_only x (inl refl)) cc in
    let P : ℕ → Type 0 = λ w. IsMerge (struck w ls) ys in
    let rest = same_ranks (struck x ls) xs ys (struck-rest x ls xs m) (subst P (sym i) (struck-rest y ls ys n)) (alike i) in
    cc (i, rest)
  where
    alike : x ≡ y → ranks (struck x ls) xs ≡ ranks (struck x ls) ys
    alike i =
        let tails : ranks ls xs ≡ ranks ls ys = cc in
        ranks-struck x ls xs m.distinct.0 ∙ tails ∙ sym (ranks-struck x ls ys (λ h. n.distinct.0 (Includes-equal ys x y i h)))
