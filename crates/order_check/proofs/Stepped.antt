-- What is left, and the walk, a step at a time.
use Rattle.order_check.proofs.Below.{ℕ, zero, suc, true, false, cond, List, length, Option, Some, None, refl, sym, ap, ◌∙◌, arith, has, members, first_free, struck, left_by, left_after, left, holder, up_to, walk, struck-fewer}
use Rattle.std.proofs.Common.{◌≡◌, ◌+◌, ◌-◌, ◌<◌, ◌≤◌, ◌∷◌}

left-none : (n : ℕ) (ls : List (List ℕ)) → first_free ls ls ≡ None → left_after n ls ≡ ls
unfolding left_after
left-none zero ls f = refl
left-none (suc n) ls f = ap (left_by (λ x. left_after n (struck x ls)) ls) f

left-some : (n : ℕ) (ls : List (List ℕ)) (x : ℕ) → first_free ls ls ≡ Some x → left_after (suc n) ls ≡ left_after n (struck x ls)
unfolding left_after
left-some n ls x f = ap (left_by (λ x. left_after n (struck x ls)) ls) f

left-fuel : (n m : ℕ) (ls : List (List ℕ)) → length (members ls) ≤ n → length (members ls) ≤ m → left_after n ls ≡ left_after m ls
left-fuel zero m ls a b = go (first_free ls ls) refl
  where
    go : (o : Option ℕ) → first_free ls ls ≡ o → left_after zero ls ≡ left_after m ls
    go None f = left-none zero ls f ∙ sym (left-none m ls f)
    go (Some x) f = let k = struck-fewer x ls f in absurd (omega (arith, k))
left-fuel (suc n) zero ls a b = go (first_free ls ls) refl
  where
    go : (o : Option ℕ) → first_free ls ls ≡ o → left_after (suc n) ls ≡ left_after zero ls
    go None f = left-none (suc n) ls f ∙ sym (left-none zero ls f)
    go (Some x) f = let k = struck-fewer x ls f in absurd (omega (arith, k))
left-fuel (suc n) (suc m) ls a b = go (first_free ls ls) refl (λ x. left-fuel n m (struck x ls))
  where
    go : (o : Option ℕ) → first_free ls ls ≡ o → ((x : ℕ) → length (members (struck x ls)) ≤ n → length (members (struck x ls)) ≤ m → left_after n (struck x ls) ≡ left_after m (struck x ls)) → left_after (suc n) ls ≡ left_after (suc m) ls
    go None f more = left-none (suc n) ls f ∙ sym (left-none (suc m) ls f)
    go (Some x) f more =
        let k = struck-fewer x ls f in
        left-some n ls x f ∙ more x (omega (arith, k)) (omega (arith, k)) ∙ sym (left-some m ls x f)

pub left-end : (ls : List (List ℕ)) → first_free ls ls ≡ None → left ls ≡ ls
unfolding left
left-end ls f = left-none (length (members ls)) ls f

pub left-step : (ls : List (List ℕ)) (x : ℕ) → first_free ls ls ≡ Some x → left ls ≡ left (struck x ls)
unfolding left
left-step ls x f = go (length (members ls)) (struck-fewer x ls f)
  where
    go : (n : ℕ) → length (members (struck x ls)) < n → left_after n ls ≡ left_after (length (members (struck x ls))) (struck x ls)
    go zero h = absurd (omega arith)
    go (suc n) h = left-some n ls x f ∙ left-fuel n (length (members (struck x ls))) (struck x ls) (omega arith) (omega arith)

pub walk-back : (n : ℕ) (ls : List (List ℕ)) (seen : List ℕ) (x : ℕ) → has seen x ≡ true → walk n ls seen x ≡ up_to x seen
unfolding walk
walk-back zero ls seen x e = refl
walk-back (suc n) ls seen x e = ap (λ b. cond b (up_to x seen) (walk n ls (x ∷ seen) (holder x ls))) e

walk-suc : (n : ℕ) (ls : List (List ℕ)) (seen : List ℕ) (x : ℕ) → has seen x ≡ false → walk (suc n) ls seen x ≡ walk n ls (x ∷ seen) (holder x ls)
unfolding walk
walk-suc n ls seen x e = ap (λ b. cond b (up_to x seen) (walk n ls (x ∷ seen) (holder x ls))) e

pub walk-on : (n i : ℕ) (ls : List (List ℕ)) (seen : List ℕ) (x : ℕ) → i < n → has seen x ≡ false → walk (n - i) ls seen x ≡ walk (n - (i + 1)) ls (x ∷ seen) (holder x ls)
walk-on n i ls seen x l e =
    let k : n - i ≡ suc (n - (i + 1)) = omega arith in
    ap (λ m. walk m ls seen x) k ∙ walk-suc (n - (i + 1)) ls seen x e

pub walk-end : (ls : List (List ℕ)) (seen : List ℕ) (x : ℕ) → walk 0 ls seen x ≡ up_to x seen
unfolding walk
walk-end ls seen x = refl
