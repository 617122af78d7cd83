-- What the special names find, class by class.
use Rattle.class_table.proofs.Below.{ℕ, zero, suc, Bool, true, false, cond, List, [], length, get_or, take, set, replicate, Option, Some, None, inl, inr, refl, sym, ap, ◌∙◌, add-one, arith, slice_get, option_and_then, cases_eq, cases_lt, eq-eqb, ne_eqb, slice_get-get_or, map-append, length-set, PyObjectRef, PyStrInterned, PyTypeRef, value_of, number_of, Classes, class_at, own_of, or_else, along, numbers, is_called, value_found, value_at, AreAdded, AreFound}
use Rattle.std.proofs.Common.{◌≡◌, ◌+◌, ◌<◌, ◌≤◌, ◌⊎◌, ◌∷◌, ◌++◌}
use Rattle.py_node.specs.declared.known.Known.TheVariants as known
use Rattle.class_table.proofs.Places.{get-set_at, get-set_away}
use Rattle.class_table.proofs.Probed.{new-number}

or-none : {V : Type 0} (o : Option V) → or_else o None ≡ o
or-none None = refl
or-none (Some x) = refl

or-assoc : {V : Type 0} (x y z : Option V) → or_else (or_else x y) z ≡ or_else x (or_else y z)
or-assoc None y z = refl
or-assoc (Some v) y z = refl

pub take-whole : {A : Type 0} (xs : List A) (i : ℕ) → length xs ≤ i → take i xs ≡ xs
take-whole [] zero l = refl
take-whole [] (suc i) l = refl
take-whole (x ∷ xs) zero l = absurd (omega (arith, l))
take-whole (x ∷ xs) (suc i) l = ap (λ ys. x ∷ ys) (take-whole xs i (omega (arith, l)))

pub take-next : {A : Type 0} (xs : List A) (i : ℕ) (x : A) → slice_get xs i ≡ Some x → take (i + 1) xs ≡ take i xs ++ x ∷ []
take-next [] i x e = cc
take-next (y ∷ ys) zero x e = cc
take-next (y ∷ ys) (suc i) x e = ap (λ m. take m (y ∷ ys)) (add-one (suc i)) ∙ ap (λ zs. y ∷ zs) (ap (λ m. take m ys) (sym (add-one i)) ∙ take-next ys i x e)

-- of as many places where nothing was found
pub nothing : (k n : ℕ) → value_at (replicate k None) n ≡ None
nothing zero n = refl
nothing (suc k) zero = refl
nothing (suc k) (suc n) = nothing k n

pub take-more : {A : Type 0} (xs : List A) (i : ℕ) (d : A) → i < length xs → take (i + 1) xs ≡ take i xs ++ get_or xs i d ∷ []
take-more xs i d l = take-next xs i (get_or xs i d) (slice_get-get_or xs i d l)

pub away : (n i from : ℕ) → (n < from) ⊎ (i + 1 ≤ n) → from ≤ i → n ≡ i → ⊥
away n i from (inl a) l e = omega (arith, a, l, e)
away n i from (inr b) l e = omega (arith, b, e)

pub wider : (n i from : ℕ) → (n < from) ⊎ (i + 1 ≤ n) → (n < from) ⊎ (i ≤ n)
wider n i from (inl a) = inl a
wider n i from (inr b) = inr (omega (arith, b))

-- what stands at a place of a list that has it
stands : (values : List (Option PyObjectRef)) (n : ℕ) → n < length values → slice_get values n ≡ Some (value_at values n)
stands values n l =
    let here = slice_get-get_or values n None l in
    here ∙ ap Some (sym (ap (option_and_then (λ v. v)) here))

value_of-append : {K V : Type 0} (test : K → Bool) (xs ys : List (K × V)) → value_of test (xs ++ ys) ≡ or_else (value_of test xs) (value_of test ys)
value_of-append test [] ys = refl
value_of-append test (a ∷ xs) ys = go (test a.0) (value_of-append test xs ys)
  where
    go : (b : Bool) → value_of test (xs ++ ys) ≡ or_else (value_of test xs) (value_of test ys) → cond b (Some a.1) (value_of test (xs ++ ys)) ≡ or_else (cond b (Some a.1) (value_of test xs)) (value_of test ys)
    go true e = refl
    go false e = e

along-append : (n : ℕ) (t : Classes PyStrInterned) (xs ys : List ℕ) → along (is_called n) t (xs ++ ys) ≡ or_else (along (is_called n) t xs) (along (is_called n) t ys)
along-append n t [] ys = refl
along-append n t (c ∷ cs) ys =
    let own = own_of (is_called n) (class_at t c) in
    ap (or_else own) (along-append n t cs ys) ∙ sym (or-assoc own (along (is_called n) t cs) (along (is_called n) t ys))

module _ (old : List (Option PyObjectRef)) where
  -- nothing was added
  pub added-none : (f : ℕ → Option PyObjectRef) → length old ≡ 70 → ((n : ℕ) → f n ≡ None) → AreAdded f old old
  added-none f count none = record {
    count = count;
    at = λ n l ne. let inside : n < length old = omega (arith, l, count) in stands old n inside ∙ ap Some (sym (ap (or_else (value_at old n)) (none n) ∙ or-none (value_at old n)));
  }

  -- the same, told otherwise
  pub added-as : (f g : ℕ → Option PyObjectRef) (new : List (Option PyObjectRef)) → ((n : ℕ) → f n ≡ g n) → AreAdded f old new → AreAdded g old new
  added-as f g new same a = record { count = a.count; at = λ n l ne. a.at n l ne ∙ ap (λ o. Some (or_else (value_at old n) o)) (same n) }

  -- one after the other
  pub added-then : (f g : ℕ → Option PyObjectRef) (now then : List (Option PyObjectRef)) → AreAdded f old now → AreAdded g now then → AreAdded (λ n. or_else (f n) (g n)) old then
  added-then f g now then a b = record {
    count = b.count;
    at = λ n l ne. b.at n l ne ∙ ap Some (ap (λ o. or_else (option_and_then (λ v. v) o) (g n)) (a.at n l ne) ∙ or-assoc (value_at old n) (f n) (g n));
  }

-- one attribute more
pub added-attr : (old now then : List (Option PyObjectRef)) (attrs more : List (PyStrInterned × PyObjectRef)) (a : PyStrInterned × PyObjectRef) → more ≡ attrs ++ a ∷ [] → AreAdded (λ n. value_of (is_called n) attrs) old now → AreAdded (λ n. value_of (is_called n) (a ∷ [])) now then → AreAdded (λ n. value_of (is_called n) more) old then
added-attr old now then attrs more a is before one =
    added-as old (λ n. or_else (value_of (is_called n) attrs) (value_of (is_called n) (a ∷ []))) (λ n. value_of (is_called n) more) then (λ n. sym (ap (value_of (is_called n)) is ∙ value_of-append (is_called n) attrs (a ∷ []))) (added-then old (λ n. value_of (is_called n) attrs) (λ n. value_of (is_called n) (a ∷ [])) now then before one)

-- one class more
pub added-class : (t : Classes PyStrInterned) (old now then : List (Option PyObjectRef)) (line more : List PyTypeRef) (c : PyTypeRef) → more ≡ line ++ c ∷ [] → AreAdded (λ n. along (is_called n) t (numbers line)) old now → AreAdded (λ n. own_of (is_called n) (class_at t c.0)) now then → AreAdded (λ n. along (is_called n) t (numbers more)) old then
added-class t old now then line more c is before one =
    let one' = added-as now (λ n. own_of (is_called n) (class_at t c.0)) (λ n. along (is_called n) t (c.0 ∷ [])) then (λ n. sym (or-none (own_of (is_called n) (class_at t c.0)))) one in
    added-as old (λ n. or_else (along (is_called n) t (numbers line)) (along (is_called n) t (c.0 ∷ []))) (λ n. along (is_called n) t (numbers more)) then
    (λ n. sym (ap (λ cs. along (is_called n) t (numbers cs)) is ∙ ap (along (is_called n) t) (map-append (λ (k : PyTypeRef). k.0) line (c ∷ [])) ∙ along-append n t (numbers line) (c.0 ∷ [])))
    (added-then old (λ n. along (is_called n) t (numbers line)) (λ n. along (is_called n) t (c.0 ∷ [])) now then before one')

-- all names but `__new__` were asked for, those before it and those after it
pub added-asked : (own : ℕ → Option PyObjectRef) (old now then : List (Option PyObjectRef)) → length then ≡ 70 → ((n : ℕ) → 0 ≤ n → n < 68 → slice_get now n ≡ Some (or_else (value_at old n) (own n))) → ((n : ℕ) → (n < 0) ⊎ (68 ≤ n) → slice_get now n ≡ slice_get old n) → ((n : ℕ) → 69 ≤ n → n < 70 → slice_get then n ≡ Some (or_else (value_at now n) (own n))) → ((n : ℕ) → (n < 69) ⊎ (70 ≤ n) → slice_get then n ≡ slice_get now n) → AreAdded own old then
added-asked own old now then count first away second far = record {
  count = count;
  at = λ n l ne. elim (cases n ne) [
    | inl a ↦ far n (inl (omega (arith, a))) ∙ first n (omega arith) a
    | inr b ↦ second n b l ∙ ap (λ o. Some (or_else (option_and_then (λ v. v) o) (own n))) (away n (inr (omega (arith, b))))
  ];
}
  where
    cases : (n : ℕ) → (n ≡ number_of known.New → ⊥) → (n < 68) ⊎ (69 ≤ n)
    cases n ne = elim (cases_eq n 68) [ inl e ↦ absurd (ne (e ∙ sym new-number)) | inr d ↦ below n d ]
      where
        below : (n : ℕ) → (n ≡ 68 → ⊥) → (n < 68) ⊎ (69 ≤ n)
        below n d = elim (cases_lt n 68) [ inl a ↦ inl a | inr b ↦ inr (omega (arith, b, d)) ]

-- with `__new__` of the class alone, all are found
pub found-all : (t : Classes PyStrInterned) (c : ℕ) (line : List ℕ) (old now then : List (Option PyObjectRef)) (v : Option PyObjectRef) → ((n : ℕ) → n < 70 → value_at old n ≡ None) → AreAdded (λ n. along (is_called n) t line) old now → then ≡ set now 68 v → v ≡ own_of (is_called (number_of known.New)) (class_at t c) → AreFound t c line then
found-all t c line old now then v none added is own = record {
  count = ap length is ∙ length-set now 68 v ∙ added.count;
  at = λ n l. elim (cases_eq n 68) [ inl e ↦ new n e | inr d ↦ other n l d ];
}
  where
    inside : 68 < length now
    inside = omega (arith, added.count)

    new : (n : ℕ) → n ≡ 68 → slice_get then n ≡ Some (value_found t c line n)
    new n e =
        let q : n ≡ number_of known.New = e ∙ sym new-number in
        ap (slice_get then) e ∙ ap (λ ys. slice_get ys 68) is ∙ get-set_at now 68 v inside
        ∙ ap Some (own ∙ ap (λ m. own_of (is_called m) (class_at t c)) (sym q) ∙ sym (ap (λ b. cond b (own_of (is_called n) (class_at t c)) (along (is_called n) t line)) (eq-eqb n (number_of known.New) q)))

    other : (n : ℕ) → n < 70 → (n ≡ 68 → ⊥) → slice_get then n ≡ Some (value_found t c line n)
    other n l d =
        let ne : n ≡ number_of known.New → ⊥ = λ q. d (q ∙ new-number) in
        ap (λ ys. slice_get ys n) is ∙ get-set_away now 68 v n d ∙ added.at n l ne
        ∙ ap (λ o. Some (or_else o (along (is_called n) t line))) (none n l)
        ∙ ap Some (sym (ap (λ b. cond b (own_of (is_called n) (class_at t c)) (along (is_called n) t line)) (ne_eqb n (number_of known.New) ne)))
