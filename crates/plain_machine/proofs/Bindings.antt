-- Bindings in which one name is set, or from which one is taken out.
use Rattle.plain_machine.proofs.Below.{Bool, true, false, cond, List, [], Some, refl, is_some, All, AllByRecursion, IsDistinct, keys_of, All-cons, All-head, All-tail, value_of, with_value, without_key}
use Rattle.std.proofs.Common.{◌≡◌, ◌∷◌}

module _ {K V : Type 0} (same : K → K → Bool) (x : K) where
  -- what is so of each name and of this one
  keys-set : (P : K → Type 0) (bs : List (K × V)) (v : V) → AllByRecursion P (keys_of bs) → P x → AllByRecursion P (keys_of (with_value same bs x v))
  keys-set P [] v h p = (p, tt)
  keys-set P (b ∷ bs) v h p = go (same b.0 x) (keys-set P bs v h.1 p)
    where
      go : (q : Bool) → AllByRecursion P (keys_of (with_value same bs x v)) → AllByRecursion P (keys_of (cond q ((b.0, v) ∷ bs) (b ∷ with_value same bs x v)))
      go true more = h
      go false more = (h.0, more)

  -- no name stands twice still
  pub apart-set : (bs : List (K × V)) (v : V) → IsDistinct same (keys_of bs) → IsDistinct same (keys_of (with_value same bs x v))
  unfolding IsDistinct
  apart-set [] v h = (tt, tt)
  apart-set (b ∷ bs) v h = go (same b.0 x) refl (apart-set bs v h.1)
    where
      go : (q : Bool) → same b.0 x ≡ q → IsDistinct same (keys_of (with_value same bs x v)) → IsDistinct same (keys_of (cond q ((b.0, v) ∷ bs) (b ∷ with_value same bs x v)))
      go true e more = h
      go false e more = (keys-set (λ y. same b.0 y ≡ false) bs v h.0 e, more)

  pub values-set : (P : V → Type 0) (bs : List (K × V)) (v : V) → All (λ b. P b.1) bs → P v → All (λ b. P b.1) (with_value same bs x v)
  values-set P [] v h p = All-cons (λ (b : K × V). P b.1) (x, v) [] p h
  values-set P (b ∷ bs) v h p =
      let rest = All-tail (λ (b : K × V). P b.1) b bs h in
      go (same b.0 x) rest (values-set P bs v rest p)
    where
      go : (q : Bool) → All (λ b. P b.1) bs → All (λ b. P b.1) (with_value same bs x v) → All (λ b. P b.1) (cond q ((b.0, v) ∷ bs) (b ∷ with_value same bs x v))
      go true rest more = All-cons (λ (b : K × V). P b.1) (b.0, v) bs p rest
      go false rest more = All-cons (λ (b : K × V). P b.1) b (with_value same bs x v) (All-head (λ (b : K × V). P b.1) b bs h) more

  -- what had a value has one still
  pub known-set : (test : K → Bool) (bs : List (K × V)) (v : V) → is_some (value_of test bs) ≡ true → is_some (value_of test (with_value same bs x v)) ≡ true
  known-set test [] v h = cc
  known-set test (b ∷ bs) v h =
      elim (same b.0 x) as (λ q. is_some (value_of test (cond q ((b.0, v) ∷ bs) (b ∷ with_value same bs x v))) ≡ true) [ true ↦ here (test b.0) h | false ↦ past (test b.0) h (known-set test bs v) ]
    where
      here : (t : Bool) → is_some (cond t (Some b.1) (value_of test bs)) ≡ true → is_some (cond t (Some v) (value_of test bs)) ≡ true
      here true h = refl
      here false h = h

      past : (t : Bool) → is_some (cond t (Some b.1) (value_of test bs)) ≡ true → (is_some (value_of test bs) ≡ true → is_some (value_of test (with_value same bs x v)) ≡ true) → is_some (cond t (Some b.1) (value_of test (with_value same bs x v))) ≡ true
      past true h more = refl
      past false h more = more h

  keys-without : (P : K → Type 0) (bs : List (K × V)) → AllByRecursion P (keys_of bs) → AllByRecursion P (keys_of (without_key same bs x))
  keys-without P [] h = h
  keys-without P (b ∷ bs) h = go (same b.0 x) (keys-without P bs h.1)
    where
      go : (q : Bool) → AllByRecursion P (keys_of (without_key same bs x)) → AllByRecursion P (keys_of (cond q (without_key same bs x) (b ∷ without_key same bs x)))
      go true more = more
      go false more = (h.0, more)

  pub apart-without : (bs : List (K × V)) → IsDistinct same (keys_of bs) → IsDistinct same (keys_of (without_key same bs x))
  unfolding IsDistinct
  apart-without [] h = h
  apart-without (b ∷ bs) h = go (same b.0 x) (apart-without bs h.1)
    where
      go : (q : Bool) → IsDistinct same (keys_of (without_key same bs x)) → IsDistinct same (keys_of (cond q (without_key same bs x) (b ∷ without_key same bs x)))
      go true more = more
      go false more = (keys-without (λ y. same b.0 y ≡ false) bs h.0, more)

  pub values-without : (P : V → Type 0) (bs : List (K × V)) → All (λ b. P b.1) bs → All (λ b. P b.1) (without_key same bs x)
  values-without P [] h = h
  values-without P (b ∷ bs) h = go (same b.0 x) (values-without P bs (All-tail (λ (b : K × V). P b.1) b bs h))
    where
      go : (q : Bool) → All (λ b. P b.1) (without_key same bs x) → All (λ b. P b.1) (cond q (without_key same bs x) (b ∷ without_key same bs x))
      go true more = more
      go false more = All-cons (λ (b : K × V). P b.1) b (without_key same bs x) (All-head (λ (b : K × V). P b.1) b bs h) more
