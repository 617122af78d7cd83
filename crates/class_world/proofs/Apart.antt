-- Variables whose names are distinct and parameters that have values, and that both stay so.
use Rattle.class_world.proofs.Below.{ℕ, zero, suc, Bool, true, false, cond, List, [], Option, Some, None, refl, ◌∙◌, arith, get_or, take, is_some, All, AllByRecursion, IsDistinct, keys_of, PyObjectRef, PyStrInterned, value_of, with_value, is_same_name, AreNamesDistinct, is_text, AreApart, Scope, bound_vars, bound_scopes, Held, Reading, bindings, spelled, HasValues, Holds, held_params, has_value, AreFilled}
use Rattle.std.proofs.Common.{◌≡◌, ◌∷◌, ◌++◌}

abbrev Bound : Type 0
Bound = List (PyStrInterned × PyObjectRef)

module _ {A : Type 0} (P : A → Type 0) where
  pub all-none : All P []
  all-none = λ i d l. absurd (omega arith)

  pub all-cons : (x : A) (xs : List A) → P x → All P xs → All P (x ∷ xs)
  all-cons x xs p h zero d l = p
  all-cons x xs p h (suc i) d l = h i d (omega arith)

  all-head : (x : A) (xs : List A) → All P (x ∷ xs) → P x
  all-head x xs h = h 0 x (omega arith)

  pub all-tail : (x : A) (xs : List A) → All P (x ∷ xs) → All P xs
  all-tail x xs h = λ i d l. h (suc i) d (omega arith)

  pub all-end : (xs : List A) (x : A) → All P xs → P x → All P (xs ++ x ∷ [])
  all-end [] x h p = all-cons x [] p all-none
  all-end (y ∷ xs) x h p = all-cons y _ (all-head y xs h) (all-end xs x (all-tail y xs h) p)

  pub all-take : (n : ℕ) (xs : List A) → All P xs → All P (take n xs)
  all-take zero xs h = all-none
  all-take (suc n) [] h = all-none
  all-take (suc n) (x ∷ xs) h = all-cons x _ (all-head x xs h) (all-take n xs (all-tail x xs h))

other-apart : (y x : PyStrInterned) (r : PyObjectRef) (bs : Bound) → is_same_name y x ≡ false → AllByRecursion (λ z. is_same_name y z ≡ false) (keys_of bs) → AllByRecursion (λ z. is_same_name y z ≡ false) (keys_of (with_value is_same_name bs x r))
other-apart y x r [] h g = (h, tt)
other-apart y x r (b ∷ bs) h g = go (is_same_name b.0 x) (other-apart y x r bs h g.1)
  where
    go : (q : Bool) → AllByRecursion (λ z. is_same_name y z ≡ false) (keys_of (with_value is_same_name bs x r)) → AllByRecursion (λ z. is_same_name y z ≡ false) (keys_of (cond q ((b.0, r) ∷ bs) (b ∷ with_value is_same_name bs x r)))
    go true k = g
    go false k = (g.0, k)

-- a name that has a value keeps its place, and a new one differs from all
pub apart-with : (bs : Bound) (x : PyStrInterned) (r : PyObjectRef) → AreNamesDistinct bs → AreNamesDistinct (with_value is_same_name bs x r)
unfolding IsDistinct
apart-with [] x r h = (tt, tt)
apart-with (b ∷ bs) x r h = go (is_same_name b.0 x) refl (apart-with bs x r h.1)
  where
    go : (q : Bool) → is_same_name b.0 x ≡ q → AreNamesDistinct (with_value is_same_name bs x r) → AreNamesDistinct (cond q ((b.0, r) ∷ bs) (b ∷ with_value is_same_name bs x r))
    go true e k = h
    go false e k = (other-apart b.0 x r bs e h.0, k)

pub vars-apart : (ss : List Scope) (vars : Bound) (x : PyStrInterned) (r : PyObjectRef) → AreNamesDistinct vars → AreNamesDistinct (bound_vars ss vars x r)
vars-apart [] vars x r h = apart-with vars x r h
vars-apart (s ∷ ss) vars x r h = h

pub scopes-apart : (ss : List Scope) (x : PyStrInterned) (r : PyObjectRef) → All (λ (s : Scope). AreNamesDistinct s.vars) ss → All (λ (s : Scope). AreNamesDistinct s.vars) (bound_scopes ss x r)
scopes-apart [] x r h = h
scopes-apart (s ∷ []) x r h = all-cons (λ (s : Scope). AreNamesDistinct s.vars) _ [] (apart-with s.vars x r (all-head (λ (s : Scope). AreNamesDistinct s.vars) s [] h)) (all-none (λ (s : Scope). AreNamesDistinct s.vars))
scopes-apart (s ∷ (u ∷ ss)) x r h = all-cons (λ (s : Scope). AreNamesDistinct s.vars) s _ (all-head (λ (s : Scope). AreNamesDistinct s.vars) s (u ∷ ss) h) (scopes-apart (u ∷ ss) x r (all-tail (λ (s : Scope). AreNamesDistinct s.vars) s (u ∷ ss) h))

either : (p : Bool) (a c : PyObjectRef) (o u : Option PyObjectRef) → (is_some o ≡ true → is_some u ≡ true) → is_some (cond p (Some a) o) ≡ true → is_some (cond p (Some c) u) ≡ true
either true a c o u k h = refl
either false a c o u k h = k h

-- what has a value has one still
pub value-with : (bs : Bound) (x : PyStrInterned) (r : PyObjectRef) (y : PyStrInterned) → has_value bs y ≡ true → has_value (with_value is_same_name bs x r) y ≡ true
value-with [] x r y h = cc
value-with (b ∷ bs) x r y h = go (is_same_name b.0 x) (value-with bs x r y)
  where
    go : (q : Bool) → (has_value bs y ≡ true → has_value (with_value is_same_name bs x r) y ≡ true) → has_value (cond q ((b.0, r) ∷ bs) (b ∷ with_value is_same_name bs x r)) y ≡ true
    go true k = either (is_same_name b.0 y) b.1 r (value_of (λ z. is_same_name z y) bs) (value_of (λ z. is_same_name z y) bs) (λ h. h) h
    go false k = either (is_same_name b.0 y) b.1 b.1 (value_of (λ z. is_same_name z y) bs) (value_of (λ z. is_same_name z y) (with_value is_same_name bs x r)) k h

pub filled-with : (w : Held) (f : PyObjectRef) (bs : Bound) (x : PyStrInterned) (r : PyObjectRef) → Holds w (HasValues f bs) → Holds w (HasValues f (with_value is_same_name bs x r))
unfolding Holds
filled-with w f bs x r h = go (held_params w.nodes f) h
  where
    go : (o : Option (List PyStrInterned)) → AreFilled bs o → AreFilled (with_value is_same_name bs x r) o
    go None h = absurd h
    go (Some ps) h = λ i d l. value-with bs x r (get_or ps i d) (h i d l)

module _ (t : Reading) where
  names-apart : (x : PyStrInterned) (bs : Bound) → AllByRecursion (λ z. is_same_name x z ≡ false) (keys_of bs) → AllByRecursion (λ z. is_text (spelled t x) z ≡ false) (keys_of (bindings t bs))
  names-apart x [] h = tt
  names-apart x (b ∷ bs) h = (t.same x.0 b.0.0 ∙ h.0, names-apart x bs h.1)

  -- two names are two texts
  pub apart-read : (bs : Bound) → AreNamesDistinct bs → AreApart (bindings t bs)
  unfolding IsDistinct
  apart-read [] h = tt
  apart-read (b ∷ bs) h = (names-apart b.0 bs h.0, apart-read bs h.1)
