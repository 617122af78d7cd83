-- With one base a class has one order, itself before the base's linearisation; with none it stands alone.
use Rattle.class_model.proofs.Below.{ℕ, List, [], Some, inl, inr, refl, sym, subst, ◌∙◌, members_of, least_order, Includes, Distinct, Subsequence, BeginsWith, IsOrder}
use Rattle.std.proofs.Common.{◌≡◌, ◌∷◌, ◌++◌}
use Rattle.class_model.proofs.Held.{Includes-equal, Includes-left, Includes-sides, Subsequence-more, Subsequence-itself, Subsequence-full, Subsequence-rest, distinct-fewer}
use Rattle.class_model.proofs.Arranged.{least_order-only}

module _ (c b : ℕ) (line : List ℕ) (begins : BeginsWith b line) (distinct : Distinct line) (apart : Includes line c → ⊥) where
  begun : (l : List ℕ) → BeginsWith b l → Subsequence (b ∷ []) l
  begun [] h = absurd h
  begun (x ∷ l) h = inl (sym h, tt)

  alone : (x : ℕ) → Includes (line ++ []) x → Includes line x
  alone x h = elim (Includes-sides line [] x h) [ inl a ↦ a | inr b ↦ absurd b ]

  inside : (x : ℕ) → Includes (c ∷ line) x → Includes (members_of c (line ∷ [])) x
  inside x (inl e) = inl e
  inside x (inr h) = inr (Includes-left line [] x h)

  outside : (x : ℕ) → Includes (members_of c (line ∷ [])) x → Includes (c ∷ line) x
  outside x (inl e) = inl e
  outside x (inr h) = inr (alone x h)

  keeps : (m : List ℕ) → Includes (line ∷ []) m → Subsequence m (c ∷ line)
  keeps m (inl e) = let P : List ℕ → Type 0 = λ w. Subsequence w (c ∷ line) in subst P e (Subsequence-more c line line (Subsequence-itself line))
  keeps m (inr h) = absurd h

  order : IsOrder c (b ∷ []) (line ∷ []) (c ∷ line)
  order = record {
    begins = refl;
    distinct = (apart, distinct);
    members_only = inside;
    all_members = outside;
    keeps_bases = Subsequence-more c (b ∷ []) line (begun line begins);
    keeps = keeps;
  }

  only : (xs : List ℕ) → IsOrder c (b ∷ []) (line ∷ []) xs → xs ≡ c ∷ line
  only [] o = absurd o.begins
  only (x ∷ xs) o =
      let e : x ≡ c = o.begins in
      let few = distinct-fewer xs line o.distinct.1 (λ y h. within y (o.members_only y (inr h)) (λ k. o.distinct.0 (Includes-equal xs y x (sym k ∙ sym e) h))) in
      let rest : Subsequence line xs = Subsequence-rest line xs x (o.keeps line (inl refl)) (λ h. apart (Includes-equal line x c e h)) in
      let same = Subsequence-full line xs rest few in
      cc (e, same)
    where
      within : (y : ℕ) → Includes (members_of c (line ∷ [])) y → (c ≡ y → ⊥) → Includes line y
      within y (inl k) n = absurd (n k)
      within y (inr k) n = alone y k

  pub least_order-one_base : least_order c (b ∷ []) (line ∷ []) ≡ Some (c ∷ line)
  least_order-one_base = least_order-only c (b ∷ []) (line ∷ []) (c ∷ line) order only

root_order : (c : ℕ) → IsOrder c [] [] (c ∷ [])
root_order c = record { begins = refl; distinct = (λ h. h, tt); members_only = λ x h. h; all_members = λ x h. h; keeps_bases = tt; keeps = λ l h. absurd h }

root_only : (c : ℕ) (xs : List ℕ) → IsOrder c [] [] xs → xs ≡ c ∷ []
root_only c [] o = absurd o.begins
root_only c (x ∷ []) o = let e : x ≡ c = o.begins in cc
root_only c (x ∷ y ∷ xs) o =
    let e : x ≡ c = o.begins in
    elim (o.members_only y (inr (inl refl))) [ inl i ↦ absurd (o.distinct.0 (inl (sym i ∙ sym e))) | inr h ↦ absurd h ]

pub least_order-no_base : (c : ℕ) → least_order c [] [] ≡ Some (c ∷ [])
least_order-no_base c = least_order-only c [] [] (c ∷ []) (root_order c) (root_only c)
