-- A class has an order exactly where its lists have no cycle.
use Rattle.order_check.proofs.Below.{ℕ, List, [], inl, inr, refl, sym, ap, subst, flat_map, Includes, Subsequence, IsMerge, HasNoCycle, members_of, IsOrder, lists_of, HasOrder, IsOrderedOrCyclic, Includes-equal, Includes-flat_map, from_flat_map, Includes-left, Includes-right, Includes-sides, Subsequence-more, Subsequence-holds, Subsequence-rest}
use Rattle.std.proofs.Common.{◌≡◌, ◌∷◌, ◌++◌}
use Rattle.order_check.proofs.Fact.{merged_or_cyclic}

module _ (c : ℕ) (bs : List ℕ) (ls : List (List ℕ)) (apart : (l : List ℕ) → Includes ls l → Includes l c → ⊥) (based : (b : ℕ) → Includes bs b → (l : List ℕ) × Includes ls l × Includes l b) where
  all_apart : (l : List ℕ) → Includes (ls ++ bs ∷ []) l → Includes l c → ⊥
  all_apart l h k = elim (Includes-sides ls (bs ∷ []) l h) [
    | inl a ↦ apart l a k
    | inr b ↦ elim b [ inl e ↦ (let P : List ℕ → Type 0 = λ w. Includes w c in let r = based c (subst P (sym e) k) in apart r.0 r.1 r.2) | inr f ↦ f ]
  ]

  flat-to : (x : ℕ) → Includes (flat_map (λ l. l) (ls ++ bs ∷ [])) x → Includes (flat_map (λ l. l) ls) x
  flat-to x h =
      let r = from_flat_map (λ l. l) (ls ++ bs ∷ []) x h in
      elim (Includes-sides ls (bs ∷ []) r.0 r.1) [
        | inl a ↦ Includes-flat_map (λ l. l) ls r.0 x a r.2
        | inr b ↦ elim b [ inl e ↦ (let P : List ℕ → Type 0 = λ w. Includes w x in let q = based x (subst P (sym e) r.2) in Includes-flat_map (λ l. l) ls q.0 x q.1 q.2) | inr f ↦ absurd f ]
      ]

  flat-from : (x : ℕ) → Includes (flat_map (λ l. l) ls) x → Includes (flat_map (λ l. l) (ls ++ bs ∷ [])) x
  flat-from x h = let r = from_flat_map (λ l. l) ls x h in Includes-flat_map (λ l. l) (ls ++ bs ∷ []) r.0 x (Includes-left ls (bs ∷ []) r.0 r.1) r.2

  not_there : Includes (flat_map (λ l. l) ls) c → ⊥
  not_there h = let r = from_flat_map (λ l. l) ls c h in apart r.0 r.1 r.2

  order-merge : (xs : List ℕ) → IsOrder c bs ls (c ∷ xs) → IsMerge (ls ++ bs ∷ []) xs
  order-merge xs o = record {
    distinct = o.distinct.1;
    members_only = λ x h. flat-from x (elim (o.members_only x (inr h)) [ inl e ↦ absurd (o.distinct.0 (Includes-equal xs x c (sym e) h)) | inr k ↦ k ]);
    keeps = λ l h. Subsequence-rest l xs c (kept l h) (all_apart l h);
  }
    where
      kept : (l : List ℕ) → Includes (ls ++ bs ∷ []) l → Subsequence l (c ∷ xs)
      kept l h = elim (Includes-sides ls (bs ∷ []) l h) [
        | inl a ↦ o.keeps l a
        | inr b ↦ elim b [ inl e ↦ (let P : List ℕ → Type 0 = λ w. Subsequence w (c ∷ xs) in subst P e o.keeps_bases) | inr f ↦ absurd f ]
      ]

  merge-order : (xs : List ℕ) → IsMerge (ls ++ bs ∷ []) xs → IsOrder c bs ls (c ∷ xs)
  merge-order xs m = record {
    begins = refl;
    distinct = (λ h. not_there (flat-to c (m.members_only c h)), m.distinct);
    members_only = only;
    all_members = all;
    keeps_bases = Subsequence-more c bs xs (m.keeps bs (Includes-right ls (bs ∷ []) bs (inl refl)));
    keeps = λ l h. Subsequence-more c l xs (m.keeps l (Includes-left ls (bs ∷ []) l h));
  }
    where
      only : (x : ℕ) → Includes (c ∷ xs) x → Includes (members_of c ls) x
      only x (inl e) = inl e
      only x (inr h) = inr (flat-to x (m.members_only x h))

      all : (x : ℕ) → Includes (members_of c ls) x → Includes (c ∷ xs) x
      all x (inl e) = inl e
      all x (inr h) = let r = from_flat_map (λ l. l) ls x h in inr (Subsequence-holds r.0 xs x (m.keeps r.0 (Includes-left ls (bs ∷ []) r.0 r.1)) r.2)

  head-is : (z : List ℕ) → IsOrder c bs ls z → (zs : List ℕ) × (z ≡ c ∷ zs)
  head-is [] o = absurd o.begins
  head-is (x ∷ zs) o = (zs, ap (λ w. w ∷ zs) o.begins)

  ordered-here : (HasOrder c bs ls → HasNoCycle (lists_of bs ls)) × (HasNoCycle (lists_of bs ls) → HasOrder c bs ls)
  ordered-here = (
    λ o. let h = head-is o.0 o.1 in (merged_or_cyclic (lists_of bs ls)).0 (h.0, order-merge h.0 (let P : List ℕ → Type 0 = λ w. IsOrder c bs ls w in subst P h.1 o.1)),
    λ n. let m = (merged_or_cyclic (lists_of bs ls)).1 n in (c ∷ m.0, merge-order m.0 m.1),
  )

pub ordered_or_cyclic : (ls : List (List ℕ)) → IsOrderedOrCyclic ls
ordered_or_cyclic ls c bases lines e apart based =
    let P : List (List ℕ) → Type 0 = λ w. (HasOrder c bases lines → HasNoCycle w) × (HasNoCycle w → HasOrder c bases lines) in
    subst P (sym e) (ordered-here c bases lines apart based)
