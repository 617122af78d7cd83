-- What is left of lists when their merge can't go on.
use Rattle.order_check.proofs.Below.{ℕ, zero, suc, Bool, true, false, cond, not, eqb, List, [], length, Option, Some, None, inl, inr, refl, sym, ap, subst, ◌∙◌, arith, false≢true, has, without, Includes, Subsequence, members, heads, IsMerge, stands_past, first_free, struck, BeforeIn, IsChain, IsCycle, HasMerge, left_by, left_after, left, holder, Subsequence-more, Decides-has, first-some, struck-fewer}
use Rattle.std.proofs.Common.{◌≡◌, ◌≤◌, ◌||◌, ◌∷◌}
use Rattle.order_check.proofs.Merged.{put-first}
use Rattle.order_check.proofs.Ordered.{before-kept}

holds-none : (l : List ℕ) (x : ℕ) → length l ≤ 0 → Includes l x → ⊥
holds-none [] x h k = k
holds-none (y ∷ l) x h k = omega arith

left-stuck-after : (n : ℕ) (ls : List (List ℕ)) → length (members ls) ≤ n → first_free (left_after n ls) (left_after n ls) ≡ None
unfolding left_after
left-stuck-after zero ls few = go (first_free ls ls) refl
  where
    go : (o : Option ℕ) → first_free ls ls ≡ o → first_free ls ls ≡ None
    go None e = e
    go (Some x) e = absurd (holds-none (members ls) x few (first-some ls ls x e).1)
left-stuck-after (suc n) ls few = go (first_free ls ls) refl (λ x. left-stuck-after n (struck x ls))
  where
    go : (o : Option ℕ) → first_free ls ls ≡ o → ((x : ℕ) → length (members (struck x ls)) ≤ n → first_free (left_after n (struck x ls)) (left_after n (struck x ls)) ≡ None) → first_free (left_by (λ x. left_after n (struck x ls)) ls o) (left_by (λ x. left_after n (struck x ls)) ls o) ≡ None
    go None e more = e
    go (Some x) e more = more x (let f = struck-fewer x ls e in omega (arith, f))

-- no head that is left is free
pub left-stuck : (ls : List (List ℕ)) → first_free (left ls) (left ls) ≡ None
unfolding left
left-stuck ls = left-stuck-after (length (members ls)) ls (omega arith)

no_head : (ls : List (List ℕ)) → heads ls ≡ [] → (l : List ℕ) → Includes ls l → [] ≡ l
no_head [] e l h = absurd h
no_head ([] ∷ ls) e l (inl i) = i
no_head ([] ∷ ls) e l (inr h) = no_head ls e l h
no_head ((x ∷ m) ∷ ls) e l h = cc

merge-nil : (ls : List (List ℕ)) → heads ls ≡ [] → IsMerge ls []
merge-nil ls e = record {
  distinct = tt;
  members_only = λ x h. absurd h;
  keeps = λ l h. let P : List ℕ → Type 0 = λ w. Subsequence w [] in subst P (no_head ls e l h) tt;
}

left-merge-after : (n : ℕ) (ls : List (List ℕ)) → heads (left_after n ls) ≡ [] → HasMerge ls
unfolding left_after
left-merge-after zero ls e = ([], merge-nil ls e)
left-merge-after (suc n) ls e = go (first_free ls ls) refl e (λ x. left-merge-after n (struck x ls))
  where
    go : (o : Option ℕ) → first_free ls ls ≡ o → heads (left_by (λ x. left_after n (struck x ls)) ls o) ≡ [] → ((x : ℕ) → heads (left_after n (struck x ls)) ≡ [] → HasMerge (struck x ls)) → HasMerge ls
    go None f e more = ([], merge-nil ls e)
    go (Some x) f e more = let r = first-some ls ls x f in let m = more x e in (x ∷ m.0, put-first x ls m.0 r.0 r.1 m.1)

-- where nothing is left, there is a merge
pub left-merge : (ls : List (List ℕ)) → heads (left ls) ≡ [] → HasMerge ls
unfolding left
left-merge ls e = left-merge-after (length (members ls)) ls e

without-kept : (x : ℕ) (l : List ℕ) → Subsequence (without x l) l
without-kept x [] = tt
without-kept x (y ∷ l) = elim (eqb y x) as (λ b. Subsequence (cond (not b) (y ∷ without x l) (without x l)) (y ∷ l)) [ true ↦ Subsequence-more y (without x l) l (without-kept x l) | false ↦ inl (refl, without-kept x l) ]

struck-before : (w : ℕ) (ls : List (List ℕ)) (x y : ℕ) → BeforeIn (struck w ls) x y → BeforeIn ls x y
struck-before w [] x y b = b
struck-before w (l ∷ ls) x y (inl a) = inl (before-kept (without w l) l x y (without-kept w l) a)
struck-before w (l ∷ ls) x y (inr b) = inr (struck-before w ls x y b)

left-before-after : (n : ℕ) (ls : List (List ℕ)) (x y : ℕ) → BeforeIn (left_after n ls) x y → BeforeIn ls x y
unfolding left_after
left-before-after zero ls x y b = b
left-before-after (suc n) ls x y b = go (first_free ls ls) b (λ z. left-before-after n (struck z ls) x y)
  where
    go : (o : Option ℕ) → BeforeIn (left_by (λ x. left_after n (struck x ls)) ls o) x y → ((z : ℕ) → BeforeIn (left_after n (struck z ls)) x y → BeforeIn (struck z ls) x y) → BeforeIn ls x y
    go None b more = b
    go (Some z) b more = struck-before z ls x y (more z b)

chain-more : (ls ms : List (List ℕ)) → ((x y : ℕ) → BeforeIn ms x y → BeforeIn ls x y) → (x : ℕ) (ys : List ℕ) (z : ℕ) → IsChain ms x ys z → IsChain ls x ys z
chain-more ls ms f x [] z c = f x z c
chain-more ls ms f x (y ∷ ys) z c = (f x y c.0, chain-more ls ms f y ys z c.1)

-- a cycle of what is left is a cycle of the lists
pub left-cycle : (ls : List (List ℕ)) (c : List ℕ) → IsCycle (left ls) c → IsCycle ls c
unfolding left
left-cycle ls [] c = absurd c
left-cycle ls (x ∷ xs) c = (c.0, chain-more ls (left_after (length (members ls)) ls) (left-before-after (length (members ls)) ls) x xs x c.1)

-- where no head is free, each stands past one
pub stuck-heads : (all ls : List (List ℕ)) → first_free all ls ≡ None → (x : ℕ) → Includes (heads ls) x → stands_past x all ≡ true
stuck-heads all [] e x h = absurd h
stuck-heads all ([] ∷ ls) e x h = stuck-heads all ls e x h
stuck-heads all ((z ∷ l) ∷ ls) e x h = go (stands_past z all) refl e h (λ f. stuck-heads all ls f x)
  where
    go : (b : Bool) → stands_past z all ≡ b → cond b (first_free all ls) (Some z) ≡ None → Includes (heads ((z ∷ l) ∷ ls)) x → (first_free all ls ≡ None → Includes (heads ls) x → stands_past x all ≡ true) → stands_past x all ≡ true
    go true t e (inl i) more = ap (λ w. stands_past w all) (sym i) ∙ t
    go true t e (inr k) more = more e k
    go false t e h more = cc

-- what stands past a head stands after the head that is its holder
pub holder-before : (ls : List (List ℕ)) (x : ℕ) → stands_past x ls ≡ true → Includes (heads ls) (holder x ls) × BeforeIn ls (holder x ls) x
holder-before [] x e = absurd (false≢true e)
holder-before ([] ∷ ls) x e = let r = holder-before ls x e in (r.0, inr r.1)
holder-before ((y ∷ l) ∷ ls) x e = go (has l x) refl (λ f. holder-before ls x f) e
  where
    go : (b : Bool) → has l x ≡ b → (stands_past x ls ≡ true → Includes (heads ls) (holder x ls) × BeforeIn ls (holder x ls) x) → (b || stands_past x ls) ≡ true → Includes (heads ((y ∷ l) ∷ ls)) (cond b y (holder x ls)) × BeforeIn ((y ∷ l) ∷ ls) (cond b y (holder x ls)) x
    go true t more e = (inl refl, inl (inl (refl, (Decides-has l x).0 t)))
    go false t more e = let r = more e in (inr r.0, inr r.1)
