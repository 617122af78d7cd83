-- Where a base stands twice, or past the head of a later base's line, no class has an order.
use Rattle.class_table.proofs.Below.{ℕ, true, List, [], Option, Some, None, inl, inr, refl, sym, subst, or_cases, has, least_order, Includes, Distinct, Subsequence, BeginsWith, IsOrder, past_first, stands_past, breaks_precedence, Includes-equal, Subsequence-holds, Subsequence-skip, Decides-has, least_order-order, AreLinesOf, IsFirstRepeat, HasNoOrder}
use Rattle.std.proofs.Common.{◌≡◌, ◌∷◌}
use Rattle.class_table.proofs.MroMerge.Repeats.{repeat-differs}

one-of : (d : ℕ) (xs : List ℕ) → Includes xs d → Subsequence (d ∷ []) xs
one-of d [] h = absurd h
one-of d (x ∷ xs) (inl e) = inl (sym e, tt)
one-of d (x ∷ xs) (inr h) = inr (one-of d xs h)

two-of : (b d : ℕ) (bs xs : List ℕ) → Subsequence (b ∷ bs) xs → Includes bs d → Subsequence (b ∷ d ∷ []) xs
two-of b d bs [] s h = absurd s
two-of b d bs (x ∷ xs) (inl p) h = inl (p.0, one-of d xs (Subsequence-holds bs xs d p.1 h))
two-of b d bs (x ∷ xs) (inr s) h = inr (two-of b d bs xs s h)

-- two members come in one order alone
crossed : (a b : ℕ) (xs : List ℕ) → Distinct xs → Subsequence (a ∷ b ∷ []) xs → Subsequence (b ∷ a ∷ []) xs → ⊥
crossed a b [] d s t = s
crossed a b (x ∷ xs) d (inl p) (inl q) = d.0 (Includes-equal xs a x p.0 (Subsequence-holds (a ∷ []) xs a q.1 (inl refl)))
crossed a b (x ∷ xs) d (inl p) (inr t) = d.0 (Includes-equal xs a x p.0 (Subsequence-holds (b ∷ a ∷ []) xs a t (inr (inl refl))))
crossed a b (x ∷ xs) d (inr s) (inl q) = d.0 (Includes-equal xs b x q.0 (Subsequence-holds (a ∷ b ∷ []) xs b s (inr (inl refl))))
crossed a b (x ∷ xs) d (inr s) (inr t) = crossed a b xs d.1 s t

module _ (xs : List ℕ) (distinct : Distinct xs) where
  past-head : (b d : ℕ) (l : List ℕ) → BeginsWith d l → has (past_first l) b ≡ true → Subsequence (b ∷ d ∷ []) xs → Subsequence l xs → ⊥
  past-head b d [] i h s t = i
  past-head b d (z ∷ l) i h s t =
      let P : ℕ → Type 0 = λ w. Subsequence (b ∷ w ∷ []) xs in
      crossed b z xs distinct (subst P (sym i) s) (two-of z b l xs t ((Decides-has l b).0 h))

  past-later : (b : ℕ) (bs : List ℕ) (ls : List (List ℕ)) → AreLinesOf bs ls → stands_past b ls ≡ true → ((d : ℕ) → Includes bs d → Subsequence (b ∷ d ∷ []) xs) → ((l : List ℕ) → Includes ls l → Subsequence l xs) → ⊥
  past-later b [] [] lines h s t = cc
  past-later b [] (l ∷ ls) lines h s t = lines
  past-later b (d ∷ bs) [] lines h s t = lines
  past-later b (d ∷ bs) (l ∷ ls) lines h s t = elim (or_cases _ _ h) [
    | inl a ↦ past-head b d l lines.0 a (s d (inl refl)) (t l (inl refl))
    | inr r ↦ past-later b bs ls lines.2 r (λ e k. s e (inr k)) (λ m k. t m (inr k))
  ]

  broken : (bs : List ℕ) (ls : List (List ℕ)) → AreLinesOf bs ls → breaks_precedence bs ls ≡ true → Subsequence bs xs → ((l : List ℕ) → Includes ls l → Subsequence l xs) → ⊥
  broken [] ls lines h s t = cc
  broken (b ∷ bs) [] lines h s t = lines
  broken (b ∷ bs) (l ∷ ls) lines h s t = elim (or_cases _ _ h) [
    | inl a ↦ past-later b bs ls lines.2 a (λ d k. two-of b d bs xs s k) (λ m k. t m (inr k))
    | inr r ↦ broken bs ls lines.2 r (Subsequence-skip b bs xs s) (λ m k. t m (inr k))
  ]

Subsequence-distinct : (l xs : List ℕ) → Subsequence l xs → Distinct xs → Distinct l
Subsequence-distinct [] xs s d = tt
Subsequence-distinct (x ∷ l) [] s d = absurd s
Subsequence-distinct (x ∷ l) (y ∷ xs) (inl p) d =
    (λ h. d.0 (Includes-equal xs x y p.0 (Subsequence-holds l xs x p.1 h)), Subsequence-distinct l xs p.1 d.1)
Subsequence-distinct (x ∷ l) (y ∷ xs) (inr s) d = Subsequence-distinct (x ∷ l) xs s d.1

none-of : (c : ℕ) (bs : List ℕ) (ls : List (List ℕ)) → ((xs : List ℕ) → IsOrder c bs ls xs → ⊥) → least_order c bs ls ≡ None
none-of c bs ls n = go (least_order c bs ls) refl
  where
    go : (r : Option (List ℕ)) → least_order c bs ls ≡ r → r ≡ None
    go None e = refl
    go (Some xs) e = absurd (n xs (least_order-order c bs ls xs e))

no-order : (bs : List ℕ) (ls : List (List ℕ)) → ((c : ℕ) (xs : List ℕ) → IsOrder c bs ls xs → ⊥) → HasNoOrder bs ls
no-order bs ls n = record { computed = λ c apart. none-of c bs ls (n c); none = λ c apart xs o. n c xs o }

pub repeat-none : (bs : List ℕ) (ls : List (List ℕ)) (b : ℕ) → IsFirstRepeat bs b → HasNoOrder bs ls
repeat-none bs ls b r = no-order bs ls (λ c xs o. repeat-differs bs b r (Subsequence-distinct bs xs o.keeps_bases o.distinct))

pub broken-none : (bs : List ℕ) (ls : List (List ℕ)) → AreLinesOf bs ls → breaks_precedence bs ls ≡ true → HasNoOrder bs ls
broken-none bs ls lines h = no-order bs ls (λ c xs o. broken xs o.distinct bs ls lines h o.keeps_bases o.keeps)
