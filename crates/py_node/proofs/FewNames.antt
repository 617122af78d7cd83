-- Attributes that are looked for one by one: at the place of a name its value is written, read and taken out.
use Rattle.py_node.proofs.Below.{ℕ, zero, suc, Bool, true, false, cond, eqb-true, List, [], length, take, get_or, insert_entry, slice_set, remove, position, list_any, None, refl, sym, ap, subst, ◌∙◌, arith, AllByRecursion, IsDistinct, keys_of, PyStrInterned, value_of, with_value, without_key, is_same_name, AreNamesDistinct, position-Some}
use Rattle.py_node.proofs.Dicts.{none-passes}
use Rattle.py_node.proofs.Entries.{insert_entry-with_value, with_value-next, without-absent}
use Rattle.py_node.proofs.Keys.{left-fails, right-fails}
use Rattle.std.proofs.Common.{◌≡◌, ◌+◌, ◌<◌, slice_get, ◌∷◌, ◌++◌, Some}

-- names are their numbers
same-name : (a b : PyStrInterned) → is_same_name a b ≡ true → a ≡ b
same-name a b e = let of_number : ℕ → PyStrInterned = λ n. record { 0 = n } in ap of_number (eqb-true a.0 b.0 e)

module _ {V : Type 0} where
  -- whether an entry is that of a name
  abbrev pub is_of : PyStrInterned → PyStrInterned × V → Bool
  is_of n e = is_same_name e.0 n

  -- the first entry of a name stands at a place
  abbrev IsFirstAt : PyStrInterned → List (PyStrInterned × V) → ℕ → PyStrInterned × V → Type 0
  IsFirstAt n es i d = (i < length es) × (is_of n (get_or es i d) ≡ true) × ((k : ℕ) → k < i → is_of n (get_or es k d) ≡ false)

  behind : (n : PyStrInterned) (e : PyStrInterned × V) (es : List (PyStrInterned × V)) (i : ℕ) (d : PyStrInterned × V) → IsFirstAt n (e ∷ es) (suc i) d → IsFirstAt n es i d
  behind n e es i d f = (omega (arith, f.0), f.1, λ k l. f.2 (suc k) (omega (arith, l)))

  -- the value that stands there
  value-at : (n : PyStrInterned) (es : List (PyStrInterned × V)) (i : ℕ) (d : PyStrInterned × V) → IsFirstAt n es i d → value_of (λ k. is_same_name k n) es ≡ Some (get_or es i d).1
  value-at n [] i d f = absurd (omega (arith, f.0))
  value-at n (e ∷ es) zero d f = ap (λ b. cond b (Some e.1) (value_of (λ k. is_same_name k n) es)) f.1
  value-at n (e ∷ es) (suc i) d f =
      ap (λ b. cond b (Some e.1) (value_of (λ k. is_same_name k n) es)) (f.2 zero (omega arith)) ∙ value-at n es i d (behind n e es i d f)

  -- another value there
  set-at : (n : PyStrInterned) (v : V) (es : List (PyStrInterned × V)) (i : ℕ) (d : PyStrInterned × V) → IsFirstAt n es i d → slice_set es i (n, v) ≡ with_value is_same_name es n v
  set-at n v [] i d f = absurd (omega (arith, f.0))
  set-at n v (e ∷ es) zero d f =
      ap (λ (m : PyStrInterned). (m, v) ∷ es) (sym (same-name e.0 n f.1))
      ∙ sym (ap (λ b. cond b ((e.0, v) ∷ es) (e ∷ with_value is_same_name es n v)) f.1)
  set-at n v (e ∷ es) (suc i) d f =
      ap (λ r. e ∷ r) (set-at n v es i d (behind n e es i d f))
      ∙ sym (ap (λ b. cond b ((e.0, v) ∷ es) (e ∷ with_value is_same_name es n v)) (f.2 zero (omega arith)))

  -- without it, where no name stands twice
  cut-at : (n : PyStrInterned) (es : List (PyStrInterned × V)) (i : ℕ) (d : PyStrInterned × V) → AreNamesDistinct es → IsFirstAt n es i d → remove es i ≡ without_key is_same_name es n
  unfolding IsDistinct
  cut-at n [] i d apart f = absurd (omega (arith, f.0))
  cut-at n (e ∷ es) zero d apart f =
      let same : e.0 ≡ n = same-name e.0 n f.1 in
      let others : AllByRecursion (λ k. is_same_name n k ≡ false) (keys_of es) =
      subst (λ (m : PyStrInterned). AllByRecursion (λ k. is_same_name m k ≡ false) (keys_of es)) same apart.0 in
      sym (without-absent n es others) ∙ sym (ap (λ b. cond b (without_key is_same_name es n) (e ∷ without_key is_same_name es n)) f.1)
  cut-at n (e ∷ es) (suc i) d apart f =
      ap (λ r. e ∷ r) (cut-at n es i d apart.1 (behind n e es i d f))
      ∙ sym (ap (λ b. cond b (without_key is_same_name es n) (e ∷ without_key is_same_name es n)) (f.2 zero (omega arith)))

  -- what doesn't stand there has no value, goes last, and isn't taken out
  no-value : (n : PyStrInterned) (es : List (PyStrInterned × V)) → list_any (is_of n) es ≡ false → value_of (λ k. is_same_name k n) es ≡ None
  no-value n [] h = refl
  no-value n (e ∷ es) h =
      ap (λ b. cond b (Some e.1) (value_of (λ k. is_same_name k n) es)) (left-fails (is_of n e) (list_any (is_of n) es) h)
      ∙ no-value n es (right-fails (is_of n e) (list_any (is_of n) es) h)

  set-last : (n : PyStrInterned) (v : V) (es : List (PyStrInterned × V)) → list_any (is_of n) es ≡ false → es ++ (n, v) ∷ [] ≡ with_value is_same_name es n v
  set-last n v [] h = refl
  set-last n v (e ∷ es) h =
      ap (λ r. e ∷ r) (set-last n v es (right-fails (is_of n e) (list_any (is_of n) es) h))
      ∙ sym (ap (λ b. cond b ((e.0, v) ∷ es) (e ∷ with_value is_same_name es n v)) (left-fails (is_of n e) (list_any (is_of n) es) h))

  not-cut : (n : PyStrInterned) (es : List (PyStrInterned × V)) → list_any (is_of n) es ≡ false → es ≡ without_key is_same_name es n
  not-cut n [] h = refl
  not-cut n (e ∷ es) h =
      ap (λ r. e ∷ r) (not-cut n es (right-fails (is_of n e) (list_any (is_of n) es) h))
      ∙ sym (ap (λ b. cond b (without_key is_same_name es n) (e ∷ without_key is_same_name es n)) (left-fails (is_of n e) (list_any (is_of n) es) h))

  -- the same, of the place that was found
  module _ (n : PyStrInterned) (es : List (PyStrInterned × V)) where
    pub value-found : (i : ℕ) (d : PyStrInterned × V) → position (is_of n) es ≡ Some i → value_of (λ k. is_same_name k n) es ≡ Some (get_or es i d).1
    value-found i d q = value-at n es i d (position-Some (is_of n) es i d q)

    pub set-found : (v : V) (i : ℕ) → position (is_of n) es ≡ Some i → slice_set es i (n, v) ≡ with_value is_same_name es n v
    set-found v i q = set-at n v es i (n, v) (position-Some (is_of n) es i (n, v) q)

    pub cut-found : (i : ℕ) (d : PyStrInterned × V) → AreNamesDistinct es → position (is_of n) es ≡ Some i → remove es i ≡ without_key is_same_name es n
    cut-found i d apart q = cut-at n es i d apart (position-Some (is_of n) es i d q)

    pub value-absent : position (is_of n) es ≡ None → value_of (λ k. is_same_name k n) es ≡ None
    value-absent q = no-value n es (none-passes (is_of n) es q)

    pub set-absent : (v : V) → position (is_of n) es ≡ None → es ++ (n, v) ∷ [] ≡ with_value is_same_name es n v
    set-absent v q = set-last n v es (none-passes (is_of n) es q)

    pub cut-absent : position (is_of n) es ≡ None → es ≡ without_key is_same_name es n
    cut-absent q = not-cut n es (none-passes (is_of n) es q)

  -- the names in front, with the next one
  got : (es : List (PyStrInterned × V)) (i : ℕ) (d : PyStrInterned × V) → i < length es → slice_get es i ≡ Some (get_or es i d)
  got [] i d l = absurd (omega (arith, l))
  got (e ∷ es) zero d l = refl
  got (e ∷ es) (suc i) d l = got es i d (omega (arith, l))

  map-next : (es : List (PyStrInterned × V)) (i : ℕ) (d : PyStrInterned × V) → AreNamesDistinct es → i < length es → with_value is_same_name (take i es) (get_or es i d).0 (get_or es i d).1 ≡ take (i + 1) es
  map-next es i d apart l =
      let next : suc i ≡ i + 1 = omega arith in
      with_value-next es i (get_or es i d) apart (got es i d l) ∙ ap (λ n. take n es) next

  -- the same of a map that has them, where the next is inserted
  pub insert-next : (before after es : List (PyStrInterned × V)) (i : ℕ) (d : PyStrInterned × V) → after ≡ insert_entry is_same_name before (get_or es i d).0 (get_or es i d).1 → before ≡ take i es → AreNamesDistinct es → i < length es → after ≡ take (i + 1) es
  insert-next before after es i d made front apart l =
      made
      ∙ insert_entry-with_value before (get_or es i d).0 (get_or es i d).1
      ∙ ap (λ m. with_value is_same_name m (get_or es i d).0 (get_or es i d).1) front
      ∙ map-next es i d apart l

  -- no name stands twice, whichever one gets a value or is taken out
  all-with : (P : PyStrInterned → Type 0) (es : List (PyStrInterned × V)) (n : PyStrInterned) (v : V) → AllByRecursion P (keys_of es) → P n → AllByRecursion P (keys_of (with_value is_same_name es n v))
  all-with P [] n v h p = (p, tt)
  all-with P (e ∷ es) n v h p = go (is_same_name e.0 n) (all-with P es n v h.1 p)
    where
      go : (b : Bool) → AllByRecursion P (keys_of (with_value is_same_name es n v)) → AllByRecursion P (keys_of (cond b ((e.0, v) ∷ es) (e ∷ with_value is_same_name es n v)))
      go true more = h
      go false more = (h.0, more)

  pub distinct-with : (es : List (PyStrInterned × V)) (n : PyStrInterned) (v : V) → AreNamesDistinct es → AreNamesDistinct (with_value is_same_name es n v)
  unfolding IsDistinct
  distinct-with [] n v apart = (tt, tt)
  distinct-with (e ∷ es) n v apart = go (is_same_name e.0 n) refl (distinct-with es n v apart.1)
    where
      go : (b : Bool) → is_same_name e.0 n ≡ b → AreNamesDistinct (with_value is_same_name es n v) → AreNamesDistinct (cond b ((e.0, v) ∷ es) (e ∷ with_value is_same_name es n v))
      go true h more = apart
      go false h more = (all-with (λ k. is_same_name e.0 k ≡ false) es n v apart.0 h, more)

  all-without : (P : PyStrInterned → Type 0) (es : List (PyStrInterned × V)) (n : PyStrInterned) → AllByRecursion P (keys_of es) → AllByRecursion P (keys_of (without_key is_same_name es n))
  all-without P [] n h = tt
  all-without P (e ∷ es) n h = go (is_same_name e.0 n) (all-without P es n h.1)
    where
      go : (b : Bool) → AllByRecursion P (keys_of (without_key is_same_name es n)) → AllByRecursion P (keys_of (cond b (without_key is_same_name es n) (e ∷ without_key is_same_name es n)))
      go true more = more
      go false more = (h.0, more)

  pub distinct-without : (es : List (PyStrInterned × V)) (n : PyStrInterned) → AreNamesDistinct es → AreNamesDistinct (without_key is_same_name es n)
  unfolding IsDistinct
  distinct-without [] n apart = tt
  distinct-without (e ∷ es) n apart = go (is_same_name e.0 n) (distinct-without es n apart.1)
    where
      go : (b : Bool) → AreNamesDistinct (without_key is_same_name es n) → AreNamesDistinct (cond b (without_key is_same_name es n) (e ∷ without_key is_same_name es n))
      go true more = more
      go false more = (all-without (λ k. is_same_name e.0 k ≡ false) es n apart.0, more)
