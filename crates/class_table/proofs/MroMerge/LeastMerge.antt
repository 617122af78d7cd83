-- The least order of a class is the class and then the merge of its bases' linearisations and its bases.
use Rattle.class_table.proofs.Below.{ℕ, suc, true, cond, List, [], length, Option, Some, None, inl, inr, refl, sym, ap, subst, ◌∙◌, arith, option_map, flat_map, both_ways, cases_Bool, or_cases, and_parts, ltb-true, has, rank, ranks, members_of, is_lexicographic, least_order, Includes, Subsequence, IsOrder, merge, Includes-equal, Includes-flat_map, from_flat_map, Includes-left, Includes-right, Includes-sides, Subsequence-more, Subsequence-holds, Subsequence-rest, Decides-has, least_order-order, least_order-none, least_order-least, IsMerge}
use Rattle.std.proofs.Common.{◌≡◌, ◌≤◌, ◌∷◌, ◌++◌}
use Rattle.class_table.proofs.MroMerge.Merged.{merge-sound, merge-best, merge-none}

module _ (c : ℕ) (bs : List ℕ) (ls : List (List ℕ)) (apart : (l : List ℕ) → Includes ls l → Includes l c → ⊥) (based : (b : ℕ) → Includes bs b → (l : List ℕ) × Includes ls l × Includes l b) where
  all_apart : (l : List ℕ) → Includes (ls ++ bs ∷ []) l → Includes l c → ⊥
  all_apart l h k = elim (Includes-sides ls (bs ∷ []) l h) [
    | inl a ↦ apart l a k
    | inr b ↦ elim b [ inl e ↦ (let P : List ℕ → Type 0 = λ w. Includes w c in let r = based c (subst P (sym e) k) in apart r.0 r.1 r.2) | inr f ↦ f ]
  ]

  flat-to : (x : ℕ) → Includes (flat_map (λ l. l) (ls ++ bs ∷ [])) x → Includes (flat_map (λ l. l) ls) x
  flat-to x h =
      let r = from_flat_map (λ l. l) (ls ++ bs ∷ []) x h in
      elim (Includes-sides ls (bs ∷ []) r.0 r.1) [
        | inl a ↦ Includes-flat_map (λ l. l) ls r.0 x a r.2
        | inr b ↦ elim b [ inl e ↦ (let P : List ℕ → Type 0 = λ w. Includes w x in let q = based x (subst P (sym e) r.2) in Includes-flat_map (λ l. l) ls q.0 x q.1 q.2) | inr f ↦ absurd f ]
      ]

  flat-from : (x : ℕ) → Includes (flat_map (λ l. l) ls) x → Includes (flat_map (λ l. l) (ls ++ bs ∷ [])) x
  flat-from x h = let r = from_flat_map (λ l. l) ls x h in Includes-flat_map (λ l. l) (ls ++ bs ∷ []) r.0 x (Includes-left ls (bs ∷ []) r.0 r.1) r.2

  not_there : Includes (flat_map (λ l. l) ls) c → ⊥
  not_there h = let r = from_flat_map (λ l. l) ls c h in apart r.0 r.1 r.2

  order-merge : (xs : List ℕ) → IsOrder c bs ls (c ∷ xs) → IsMerge (ls ++ bs ∷ []) xs
  order-merge xs o = record {
    distinct = o.distinct.1;
    members_only = λ x h. flat-from x (elim (o.members_only x (inr h)) [ inl e ↦ absurd (o.distinct.0 (Includes-equal xs x c (sym e) h)) | inr k ↦ k ]);
    keeps = λ l h. Subsequence-rest l xs c (kept l h) (all_apart l h);
  }
    where
      kept : (l : List ℕ) → Includes (ls ++ bs ∷ []) l → Subsequence l (c ∷ xs)
      kept l h = elim (Includes-sides ls (bs ∷ []) l h) [
        | inl a ↦ o.keeps l a
        | inr b ↦ elim b [ inl e ↦ (let P : List ℕ → Type 0 = λ w. Subsequence w (c ∷ xs) in subst P e o.keeps_bases) | inr f ↦ absurd f ]
      ]

  merge-order : (xs : List ℕ) → IsMerge (ls ++ bs ∷ []) xs → IsOrder c bs ls (c ∷ xs)
  merge-order xs m = record {
    begins = refl;
    distinct = (λ h. not_there (flat-to c (m.members_only c h)), m.distinct);
    members_only = only;
    all_members = all;
    keeps_bases = Subsequence-more c bs xs (m.keeps bs (Includes-right ls (bs ∷ []) bs (inl refl)));
    keeps = λ l h. Subsequence-more c l xs (m.keeps l (Includes-left ls (bs ∷ []) l h));
  }
    where
      only : (x : ℕ) → Includes (c ∷ xs) x → Includes (members_of c ls) x
      only x (inl e) = inl e
      only x (inr h) = inr (flat-to x (m.members_only x h))

      all : (x : ℕ) → Includes (members_of c ls) x → Includes (c ∷ xs) x
      all x (inl e) = inl e
      all x (inr h) = let r = from_flat_map (λ l. l) ls x h in inr (Subsequence-holds r.0 xs x (m.keeps r.0 (Includes-left ls (bs ∷ []) r.0 r.1)) r.2)

  -- the bases, at the end, change no rank
  rank-last : (ls : List (List ℕ)) (x : ℕ) → Includes (flat_map (λ l. l) ls) x → rank (ls ++ bs ∷ []) x ≡ rank ls x
  rank-last [] x h = absurd h
  rank-last (l ∷ ls) x h = elim (cases_Bool (has l x)) [
    | inl t ↦ rw t refl
    | inr f ↦ elim (Includes-sides l (flat_map (λ l. l) ls) x h) [
      | inl a ↦ absurd (both_ways (has l x) f ((Decides-has l x).1 a))
      | inr b ↦ ap (λ r. cond (has l x) 0 (suc r)) (rank-last ls x b)
    ]
  ]

  ranks-last : (xs : List ℕ) → ((x : ℕ) → Includes xs x → Includes (flat_map (λ l. l) ls) x) → ranks (ls ++ bs ∷ []) xs ≡ ranks ls xs
  ranks-last [] h = refl
  ranks-last (x ∷ xs) h = let a = rank-last ls x (h x (inl refl)) in let b = ranks-last xs (λ y k. h y (inr k)) in cc (a, b)

  head-is : (z : List ℕ) → IsOrder c bs ls z → (zs : List ℕ) × (z ≡ c ∷ zs)
  head-is [] o = absurd o.begins
  head-is (x ∷ zs) o = (zs, ap (λ w. w ∷ zs) o.begins)

  lex-tail : (r : ℕ) (xs ys : List ℕ) → is_lexicographic (r ∷ xs) (r ∷ ys) ≡ true → is_lexicographic xs ys ≡ true
  lex-tail r xs ys e = elim (or_cases _ _ e) [ inl l ↦ (let less = ltb-true r r l in absurd (omega arith)) | inr b ↦ (and_parts _ _ b).1 ]

  no-less : (n : ℕ) (xs zs : List ℕ) → merge n (ls ++ bs ∷ []) ≡ Some xs → least_order c bs ls ≡ Some (c ∷ zs) → xs ≡ zs
  no-less n xs zs e f =
      let m = merge-sound n (ls ++ bs ∷ []) xs e in
      let k = order-merge zs (least_order-order c bs ls (c ∷ zs) f) in
      let a : is_lexicographic (ranks ls zs) (ranks ls xs) ≡ true = lex-tail (rank ls c) (ranks ls zs) (ranks ls xs) ((least_order-least c bs ls (c ∷ zs) f).least (c ∷ xs) (merge-order xs m)) in
      let p = ranks-last zs (λ x h. flat-to x (k.members_only x h)) in
      let q = ranks-last xs (λ x h. flat-to x (m.members_only x h)) in
      let b : is_lexicographic (ranks (ls ++ bs ∷ []) zs) (ranks (ls ++ bs ∷ []) xs) ≡ true = ap (λ v. is_lexicographic v (ranks (ls ++ bs ∷ []) xs)) p ∙ ap (is_lexicographic (ranks ls zs)) q ∙ a in
      elim (merge-best n (ls ++ bs ∷ []) xs zs e k) [ inl g ↦ absurd (both_ways _ g b) | inr i ↦ i ]

  -- the least order is the class and then the merge, or there is none
  pub least_order-merge : (n : ℕ) → length (flat_map (λ l. l) (ls ++ bs ∷ [])) ≤ n → least_order c bs ls ≡ option_map (λ xs. c ∷ xs) (merge n (ls ++ bs ∷ []))
  least_order-merge n few = go (merge n (ls ++ bs ∷ [])) refl (least_order c bs ls) refl
    where
      go : (r : Option (List ℕ)) → merge n (ls ++ bs ∷ []) ≡ r → (o : Option (List ℕ)) → least_order c bs ls ≡ o → o ≡ option_map (λ xs. c ∷ xs) r
      go None e None f = refl
      go None e (Some z) f =
          let o = least_order-order c bs ls z f in
          let h = head-is z o in
          absurd (merge-none n (ls ++ bs ∷ []) h.0 few e (order-merge h.0 (let P : List ℕ → Type 0 = λ w. IsOrder c bs ls w in subst P h.1 o)))
      go (Some xs) e None f = absurd (least_order-none c bs ls (c ∷ xs) f (merge-order xs (merge-sound n (ls ++ bs ∷ []) xs e)))
      go (Some xs) e (Some z) f =
          let h = head-is z (least_order-order c bs ls z f) in
          ap Some (h.1 ∙ ap (λ w. c ∷ w) (sym (no-less n xs h.0 e (f ∙ ap Some h.1))))
