-- The merge is the least of all merges, or there is none.
use Rattle.class_table.proofs.Below.{ℕ, zero, suc, Bool, true, false, cond, not, List, [], length, Option, Some, None, inl, inr, refl, sym, ap, subst, ◌∙◌, arith, option_map, flat_map, eq-eqb, ne_eqb, le-ltb, cases_eq, or_parts, or_from, false_from_ne_true, false≢true, has, rank, ranks, is_lexicographic, without, Includes, Distinct, Subsequence, past_first, stands_past, IsMerge, first_free, are_empty, struck, after, merge, Includes-equal, from_flat_map, Includes-map, Includes-right, Includes-sides, Includes-without, from_without, length-without, Subsequence-holds, Decides-has}
use Rattle.std.proofs.Common.{◌≡◌, ◌<◌, ◌≤◌, ◌||◌, ◌∷◌, ◌⊎◌}
use Rattle.class_table.proofs.MroMerge.Struck.{without-none, without-head, Distinct-without, Subsequence-without, flat-struck, struck-back, ranks-struck}

-- a member stands past no head
unfoldable pub Free : ℕ → List (List ℕ) → Type 0
Free x ls = (l : List ℕ) → Includes ls l → has (past_first l) x ≡ false

free-from : (x : ℕ) (ls : List (List ℕ)) → stands_past x ls ≡ false → Free x ls
unfolding Free
free-from x [] e l h = absurd h
free-from x (m ∷ ls) e l (inl i) = let p = or_parts _ _ e in ap (λ w. has (past_first w) x) (sym i) ∙ p.0
free-from x (m ∷ ls) e l (inr h) = let p = or_parts _ _ e in free-from x ls p.1 l h

pub free-to : (x : ℕ) (ls : List (List ℕ)) → Free x ls → stands_past x ls ≡ false
unfolding Free
free-to x [] f = refl
free-to x (l ∷ ls) f = or_from _ _ (f l (inl refl)) (free-to x ls (λ m h. f m (inr h)))

-- a merge's first member is free
pub first-free : (ls : List (List ℕ)) (y : ℕ) (ys : List ℕ) → IsMerge ls (y ∷ ys) → Free y ls
unfolding Free
first-free ls y ys m l h = false_from_ne_true _ (λ e. go l (m.keeps l h) e)
  where
    go : (l : List ℕ) → Subsequence l (y ∷ ys) → has (past_first l) y ≡ true → ⊥
    go [] s e = false≢true e
    go (z ∷ l) (inl p) e = m.distinct.0 (Subsequence-holds l ys y p.1 ((Decides-has l y).0 e))
    go (z ∷ l) (inr s) e = m.distinct.0 (Subsequence-holds (z ∷ l) ys y s (inr ((Decides-has l y).0 e)))

-- any member can be struck out
struck-merge : (x : ℕ) (ls : List (List ℕ)) (ys : List ℕ) → IsMerge ls ys → IsMerge (struck x ls) (without x ys)
struck-merge x ls ys m = record {
  distinct = Distinct-without x ys m.distinct;
  members_only = λ z h. let r = from_without x z ys h in let P : List ℕ → Type 0 = λ l. Includes l z in subst P (sym (flat-struck x ls)) (Includes-without x z (flat_map (λ l. l) ls) (m.members_only z r.0) r.1);
  keeps = λ l h. let r = struck-back x ls l h in let P : List ℕ → Type 0 = λ w. Subsequence w (without x ys) in subst P r.2 (Subsequence-without x r.0 ys (m.keeps r.0 r.1));
}

pub struck-rest : (y : ℕ) (ls : List (List ℕ)) (ys : List ℕ) → IsMerge ls (y ∷ ys) → IsMerge (struck y ls) ys
struck-rest y ls ys m = let P : List ℕ → Type 0 = λ l. IsMerge (struck y ls) l in subst P (without-head y ys m.distinct.0) (struck-merge y ls (y ∷ ys) m)

unstruck : (x : ℕ) (ls : List (List ℕ)) (z : ℕ) → Includes (flat_map (λ l. l) (struck x ls)) z → Includes (flat_map (λ l. l) ls) z × (z ≡ x → ⊥)
unstruck x ls z h = from_without x z (flat_map (λ l. l) ls) (let P : List ℕ → Type 0 = λ l. Includes l z in subst P (flat-struck x ls) h)

-- a free member can go first
put-first : (x : ℕ) (ls : List (List ℕ)) (ys : List ℕ) → Free x ls → Includes (flat_map (λ l. l) ls) x → IsMerge (struck x ls) ys → IsMerge ls (x ∷ ys)
unfolding Free
put-first x ls ys f h m = record {
  distinct = (λ k. (unstruck x ls x (m.members_only x k)).1 refl, m.distinct);
  members_only = only;
  keeps = λ l k. keeps l (f l k) (m.keeps (without x l) (Includes-map (without x) ls l k));
}
  where
    only : (z : ℕ) → Includes (x ∷ ys) z → Includes (flat_map (λ l. l) ls) z
    only z (inl e) = Includes-equal (flat_map (λ l. l) ls) x z e h
    only z (inr k) = (unstruck x ls z (m.members_only z k)).0

    keeps : (l : List ℕ) → has (past_first l) x ≡ false → Subsequence (without x l) ys → Subsequence l (x ∷ ys)
    keeps [] e s = tt
    keeps (z ∷ l) e s =
        let none : Includes l x → ⊥ = λ k. false≢true (sym e ∙ (Decides-has l x).1 k) in
        elim (cases_eq z x) [
          | inl i ↦
              let P : List ℕ → Type 0 = λ w. Subsequence w ys in
              inl (i, subst P (ap (λ b. cond (not b) (z ∷ without x l) (without x l)) (eq-eqb z x i) ∙ without-none x l none) s)
          | inr n ↦
              let P : List ℕ → Type 0 = λ w. Subsequence w ys in
              inr (subst P (without-none x (z ∷ l) (λ k. elim k [ inl i ↦ n i | inr r ↦ none r ])) s)
        ]

rank-head : (z : ℕ) (l : List ℕ) (ls : List (List ℕ)) (x : ℕ) → z ≡ x → rank ((z ∷ l) ∷ ls) x ≡ 0
rank-head z l ls x e = ap (λ b. cond (b || has l x) 0 (suc (rank ls x))) (eq-eqb z x e)

rank-past : (z : ℕ) (l : List ℕ) (ls : List (List ℕ)) (x : ℕ) → (z ≡ x → ⊥) → has l x ≡ false → rank ((z ∷ l) ∷ ls) x ≡ suc (rank ls x)
rank-past z l ls x n e = ap (λ b. cond (b || has l x) 0 (suc (rank ls x))) (ne_eqb z x n) ∙ ap (λ b. cond b 0 (suc (rank ls x))) e

not_free : (z x : ℕ) (all : List (List ℕ)) → stands_past z all ≡ true → Free x all → z ≡ x → ⊥
not_free z x all e f i = false≢true (sym (free-to x all f) ∙ ap (λ w. stands_past w all) (sym i) ∙ e)

pub first-some : (all ls : List (List ℕ)) (x : ℕ) → first_free all ls ≡ Some x → Free x all × Includes (flat_map (λ l. l) ls) x
first-some all [] x e = cc
first-some all ([] ∷ ls) x e = first-some all ls x e
first-some all ((z ∷ l) ∷ ls) x e = go (stands_past z all) refl e (first-some all ls x)
  where
    go : (b : Bool) → stands_past z all ≡ b → cond b (first_free all ls) (Some z) ≡ Some x → (first_free all ls ≡ Some x → Free x all × Includes (flat_map (λ l. l) ls) x) → Free x all × Includes (flat_map (λ l. l) ((z ∷ l) ∷ ls)) x
    go false t e more = let i : z ≡ x = cc in (free-from x all (ap (λ w. stands_past w all) (sym i) ∙ t), inl i)
    go true t e more = let r = more e in (r.0, inr (Includes-right l (flat_map (λ l. l) ls) x r.1))

-- the first free member has the least rank of all that are free
first-least : (all ls : List (List ℕ)) (x y : ℕ) → ((l : List ℕ) → Includes ls l → Includes all l) → Free y all → first_free all ls ≡ Some x → (rank ls x < rank ls y) ⊎ (x ≡ y)
unfolding Free
first-least all [] x y within f e = cc
first-least all ([] ∷ ls) x y within f e = elim (first-least all ls x y (λ l h. within l (inr h)) f e) [ inl a ↦ inl (omega arith) | inr b ↦ inr b ]
first-least all ((z ∷ l) ∷ ls) x y within f e =
    go (stands_past z all) refl e (first-least all ls x y (λ l h. within l (inr h)) f) (first-some all ls x)
  where
    outside : (w : ℕ) → Free w all → has l w ≡ false
    outside w g = g (z ∷ l) (within (z ∷ l) (inl refl))

    go : (b : Bool) → stands_past z all ≡ b → cond b (first_free all ls) (Some z) ≡ Some x → (first_free all ls ≡ Some x → (rank ls x < rank ls y) ⊎ (x ≡ y)) → (first_free all ls ≡ Some x → Free x all × Includes (flat_map (λ l. l) ls) x) → (rank ((z ∷ l) ∷ ls) x < rank ((z ∷ l) ∷ ls) y) ⊎ (x ≡ y)
    go false t e more some =
        let i : z ≡ x = cc in
        elim (cases_eq z y) [ inl j ↦ inr (sym i ∙ j) | inr n ↦ inl (rw (rank-head z l ls x i, rank-past z l ls y n (outside y f)) (omega arith)) ]
    go true t e more some =
        let g = (some e).0 in
        let p = rank-past z l ls x (not_free z x all t g) (outside x g) in
        let q = rank-past z l ls y (not_free z y all t f) (outside y f) in
        elim (more e) [ inl a ↦ inl (rw (p, q) (omega arith)) | inr b ↦ inr b ]

stuck : (all ls : List (List ℕ)) (y : ℕ) → ((l : List ℕ) → Includes ls l → Includes all l) → Free y all → Includes (flat_map (λ l. l) ls) y → first_free all ls ≡ None → ⊥
unfolding Free
stuck all [] y within f h e = h
stuck all ([] ∷ ls) y within f h e = stuck all ls y (λ l k. within l (inr k)) f h e
stuck all ((z ∷ l) ∷ ls) y within f h e = go (stands_past z all) refl e h (stuck all ls y (λ l k. within l (inr k)) f)
  where
    go : (b : Bool) → stands_past z all ≡ b → cond b (first_free all ls) (Some z) ≡ None → Includes (flat_map (λ l. l) ((z ∷ l) ∷ ls)) y → (Includes (flat_map (λ l. l) ls) y → first_free all ls ≡ None → ⊥) → ⊥
    go false t e h more = cc
    go true t e (inl i) more = not_free z y all t f i
    go true t e (inr h) more =
        elim (Includes-sides l (flat_map (λ l. l) ls) y h) [ inl a ↦ false≢true (sym (f (z ∷ l) (within (z ∷ l) (inl refl))) ∙ (Decides-has l y).1 a) | inr b ↦ more b e ]

empty-each : (ls : List (List ℕ)) → are_empty ls ≡ true → (l : List ℕ) → Includes ls l → [] ≡ l
empty-each [] e l h = absurd h
empty-each ([] ∷ ls) e l (inl i) = i
empty-each ([] ∷ ls) e l (inr h) = empty-each ls e l h
empty-each ((x ∷ m) ∷ ls) e l h = absurd (false≢true e)

empty-flat : (ls : List (List ℕ)) → are_empty ls ≡ true → [] ≡ flat_map (λ l. l) ls
empty-flat [] e = refl
empty-flat ([] ∷ ls) e = empty-flat ls e
empty-flat ((x ∷ m) ∷ ls) e = absurd (false≢true e)

pub full-some : (ls : List (List ℕ)) → are_empty ls ≡ false → (x : ℕ) × Includes (flat_map (λ l. l) ls) x
full-some [] e = absurd (false≢true (sym e))
full-some ([] ∷ ls) e = full-some ls e
full-some ((x ∷ m) ∷ ls) e = (x, inl refl)

pub merge-empty : (ls : List (List ℕ)) → are_empty ls ≡ true → IsMerge ls []
merge-empty ls e = record {
  distinct = tt;
  members_only = λ x h. absurd h;
  keeps = λ l h. let P : List ℕ → Type 0 = λ w. Subsequence w [] in subst P (empty-each ls e l h) tt;
}

-- a merge of lists that are empty
only-empty : (ls : List (List ℕ)) (ys : List ℕ) → are_empty ls ≡ true → IsMerge ls ys → [] ≡ ys
only-empty ls [] e m = refl
only-empty ls (y ∷ ys) e m = absurd (let P : List ℕ → Type 0 = λ l. Includes l y in subst P (sym (empty-flat ls e)) (m.members_only y (inl refl)))

-- a merge of lists that are not all empty
not-nil : (ls : List (List ℕ)) → are_empty ls ≡ false → IsMerge ls [] → ⊥
not-nil ls e m =
    let r = full-some ls e in
    let l = from_flat_map (λ l. l) ls r.0 r.1 in
    Subsequence-holds l.0 [] r.0 (m.keeps l.0 l.1) l.2

pub merge-sound : (n : ℕ) (ls : List (List ℕ)) (xs : List ℕ) → merge n ls ≡ Some xs → IsMerge ls xs
unfolding merge
merge-sound zero ls xs e = go (are_empty ls) refl e
  where
    go : (b : Bool) → are_empty ls ≡ b → cond b (Some []) None ≡ Some xs → IsMerge ls xs
    go true t e = let i : [] ≡ xs = cc in let P : List ℕ → Type 0 = λ w. IsMerge ls w in subst P i (merge-empty ls t)
    go false t e = cc
merge-sound (suc n) ls xs e = go (are_empty ls) refl e (λ x ys. merge-sound n (struck x ls) ys)
  where
    last : (x : ℕ) → first_free ls ls ≡ Some x → (r : Option (List ℕ)) → ((ys : List ℕ) → r ≡ Some ys → IsMerge (struck x ls) ys) → option_map (λ xs. x ∷ xs) r ≡ Some xs → IsMerge ls xs
    last x f None more e = cc
    last x f (Some ys) more e =
        let r = first-some ls ls x f in
        let i : x ∷ ys ≡ xs = cc in
        let P : List ℕ → Type 0 = λ w. IsMerge ls w in
        subst P i (put-first x ls ys r.0 r.1 (more ys refl))

    next : (o : Option ℕ) → first_free ls ls ≡ o → after (λ x. merge n (struck x ls)) o ≡ Some xs → ((x : ℕ) (ys : List ℕ) → merge n (struck x ls) ≡ Some ys → IsMerge (struck x ls) ys) → IsMerge ls xs
    next None f e more = cc
    next (Some x) f e more = last x f (merge n (struck x ls)) (more x) e

    go : (b : Bool) → are_empty ls ≡ b → cond b (Some []) (after (λ x. merge n (struck x ls)) (first_free ls ls)) ≡ Some xs → ((x : ℕ) (ys : List ℕ) → merge n (struck x ls) ≡ Some ys → IsMerge (struck x ls) ys) → IsMerge ls xs
    go true t e more = let i : [] ≡ xs = cc in let P : List ℕ → Type 0 = λ w. IsMerge ls w in subst P i (merge-empty ls t)
    go false t e more = next (first_free ls ls) refl e more

-- any other merge has greater ranks
pub merge-best : (n : ℕ) (ls : List (List ℕ)) (xs ys : List ℕ) → merge n ls ≡ Some xs → IsMerge ls ys → (is_lexicographic (ranks ls ys) (ranks ls xs) ≡ false) ⊎ (xs ≡ ys)
unfolding merge
merge-best zero ls xs ys e m = go (are_empty ls) refl e
  where
    go : (b : Bool) → are_empty ls ≡ b → cond b (Some []) None ≡ Some xs → (is_lexicographic (ranks ls ys) (ranks ls xs) ≡ false) ⊎ (xs ≡ ys)
    go true t e = inr (let i : [] ≡ xs = cc in sym i ∙ only-empty ls ys t m)
    go false t e = cc
merge-best (suc n) ls xs [] e m = go (are_empty ls) refl e
  where
    go : (b : Bool) → are_empty ls ≡ b → cond b (Some []) (after (λ x. merge n (struck x ls)) (first_free ls ls)) ≡ Some xs → (is_lexicographic (ranks ls []) (ranks ls xs) ≡ false) ⊎ (xs ≡ [])
    go true t e = inr (let i : [] ≡ xs = cc in sym i)
    go false t e = absurd (not-nil ls t m)
merge-best (suc n) ls xs (y ∷ ys) e m = go (are_empty ls) refl e (λ x zs. merge-best n (struck x ls) zs ys)
  where
    less : (x : ℕ) (zs : List ℕ) → rank ls x < rank ls y → (is_lexicographic (ranks ls (y ∷ ys)) (ranks ls (x ∷ zs)) ≡ false) ⊎ (x ∷ zs ≡ y ∷ ys)
    less x zs l = inl (rw (le-ltb (rank ls y) (rank ls x) (omega arith), ne_eqb (rank ls y) (rank ls x) (λ h. omega arith)) refl)

    alike : (x : ℕ) (zs : List ℕ) → x ≡ y → Distinct (x ∷ zs) → (is_lexicographic (ranks (struck x ls) ys) (ranks (struck x ls) zs) ≡ false) ⊎ (zs ≡ ys) → (is_lexicographic (ranks ls (y ∷ ys)) (ranks ls (x ∷ zs)) ≡ false) ⊎ (x ∷ zs ≡ y ∷ ys)
    alike x zs i d (inr s) = inr cc
    alike x zs i d (inl f) =
        let a = ranks-struck x ls ys (λ h. m.distinct.0 (Includes-equal ys x y i h)) in
        let b = ranks-struck x ls zs d.0 in
        let k : rank ls y ≡ rank ls x = ap (rank ls) (sym i) in
        let g : is_lexicographic (ranks ls ys) (ranks ls zs) ≡ false = sym (ap (λ v. is_lexicographic v (ranks (struck x ls) zs)) a ∙ ap (is_lexicographic (ranks ls ys)) b) ∙ f in
        inl (rw (le-ltb (rank ls y) (rank ls x) (omega (arith, k)), eq-eqb (rank ls y) (rank ls x) k) g)

    last : (x : ℕ) → first_free ls ls ≡ Some x → (r : Option (List ℕ)) → merge n (struck x ls) ≡ r → ((zs : List ℕ) → r ≡ Some zs → IsMerge (struck x ls) ys → (is_lexicographic (ranks (struck x ls) ys) (ranks (struck x ls) zs) ≡ false) ⊎ (zs ≡ ys)) → option_map (λ xs. x ∷ xs) r ≡ Some xs → (is_lexicographic (ranks ls (y ∷ ys)) (ranks ls xs) ≡ false) ⊎ (xs ≡ y ∷ ys)
    last x f None q more e = cc
    last x f (Some zs) q more e =
        let i : x ∷ zs ≡ xs = cc in
        let first = first-some ls ls x f in
        let d = (put-first x ls zs first.0 first.1 (merge-sound n (struck x ls) zs q)).distinct in
        let P : List ℕ → Type 0 = λ w. (is_lexicographic (ranks ls (y ∷ ys)) (ranks ls w) ≡ false) ⊎ (w ≡ y ∷ ys) in
        subst P i (elim (first-least ls ls x y (λ l h. h) (first-free ls y ys m) f) [
          | inl l ↦ less x zs l
          | inr j ↦ alike x zs j d (more zs refl (let Q : ℕ → Type 0 = λ w. IsMerge (struck w ls) ys in subst Q (sym j) (struck-rest y ls ys m)))
        ])

    next : (o : Option ℕ) → first_free ls ls ≡ o → after (λ x. merge n (struck x ls)) o ≡ Some xs → ((x : ℕ) (zs : List ℕ) → merge n (struck x ls) ≡ Some zs → IsMerge (struck x ls) ys → (is_lexicographic (ranks (struck x ls) ys) (ranks (struck x ls) zs) ≡ false) ⊎ (zs ≡ ys)) → (is_lexicographic (ranks ls (y ∷ ys)) (ranks ls xs) ≡ false) ⊎ (xs ≡ y ∷ ys)
    next None f e more = cc
    next (Some x) f e more = last x f (merge n (struck x ls)) refl (more x) e

    go : (b : Bool) → are_empty ls ≡ b → cond b (Some []) (after (λ x. merge n (struck x ls)) (first_free ls ls)) ≡ Some xs → ((x : ℕ) (zs : List ℕ) → merge n (struck x ls) ≡ Some zs → IsMerge (struck x ls) ys → (is_lexicographic (ranks (struck x ls) ys) (ranks (struck x ls) zs) ≡ false) ⊎ (zs ≡ ys)) → (is_lexicographic (ranks ls (y ∷ ys)) (ranks ls xs) ≡ false) ⊎ (xs ≡ y ∷ ys)
    go true t e more = inr (let i : [] ≡ xs = cc in sym i ∙ only-empty ls (y ∷ ys) t m)
    go false t e more = next (first_free ls ls) refl e more

-- where it is stuck, there is none
pub merge-none : (n : ℕ) (ls : List (List ℕ)) (ys : List ℕ) → length (flat_map (λ l. l) ls) ≤ n → merge n ls ≡ None → IsMerge ls ys → ⊥
unfolding merge
merge-none zero ls ys few e m = go (are_empty ls) refl e
  where
    none : (l : List ℕ) (x : ℕ) → length l ≤ 0 → Includes l x → ⊥
    none [] x h k = k
    none (y ∷ l) x h k = omega arith

    go : (b : Bool) → are_empty ls ≡ b → ◌≡◌ {A = Option (List ℕ)} (cond b (Some []) None) None → ⊥
    go true t e = cc
    go false t e = let r = full-some ls t in none (flat_map (λ l. l) ls) r.0 few r.1
merge-none (suc n) ls ys few e m = go (are_empty ls) refl e (λ x. merge-none n (struck x ls) (without x ys))
  where
    none_at : (ys : List ℕ) → are_empty ls ≡ false → first_free ls ls ≡ None → IsMerge ls ys → ⊥
    none_at [] t f m = not-nil ls t m
    none_at (y ∷ ys) t f m = stuck ls ls y (λ l h. h) (first-free ls y ys m) (m.members_only y (inl refl)) f

    fewer : (x : ℕ) → Includes (flat_map (λ l. l) ls) x → length (flat_map (λ l. l) (struck x ls)) ≤ n
    fewer x h = let a = ap length (flat-struck x ls) in let b = length-without x (flat_map (λ l. l) ls) h in omega (arith, a, b)

    last : (x : ℕ) → Includes (flat_map (λ l. l) ls) x → (r : Option (List ℕ)) → (length (flat_map (λ l. l) (struck x ls)) ≤ n → r ≡ None → IsMerge (struck x ls) (without x ys) → ⊥) → option_map (λ xs. x ∷ xs) r ≡ None → ⊥
    last x h None more e = more (fewer x h) refl (struck-merge x ls ys m)
    last x h (Some zs) more e = cc

    next : are_empty ls ≡ false → (o : Option ℕ) → first_free ls ls ≡ o → after (λ x. merge n (struck x ls)) o ≡ None → ((x : ℕ) → length (flat_map (λ l. l) (struck x ls)) ≤ n → merge n (struck x ls) ≡ None → IsMerge (struck x ls) (without x ys) → ⊥) → ⊥
    next t None f e more = none_at ys t f m
    next t (Some x) f e more = last x (first-some ls ls x f).1 (merge n (struck x ls)) (more x) e

    go : (b : Bool) → are_empty ls ≡ b → cond b (Some []) (after (λ x. merge n (struck x ls)) (first_free ls ls)) ≡ None → ((x : ℕ) → length (flat_map (λ l. l) (struck x ls)) ≤ n → merge n (struck x ls) ≡ None → IsMerge (struck x ls) (without x ys) → ⊥) → ⊥
    go true t e more = cc
    go false t e more = next t (first_free ls ls) refl e more
