-- Variables and scopes, as a reading has them, and what holds of them.
use Rattle.class_world.proofs.Below.{ℕ, zero, suc, Bool, true, false, cond, List, [], length, Option, Some, None, Result, Ok, Err, OnOk, OnErr, refl, sym, ap, ◌∙◌, subst, arith, get_or, set, take, map, IfSome, PyObjectRef, PyStrInterned, All, value_of, with_value, without_key, is_same_name, AreNamesDistinct, Started, is_text, or_else_var, bound, bound_last, in_last, variable, with_binding, with_scope, without_scope, Scope, Held, Reading, spelled, bindings, scope_of, plain, IsName, IsNode, Holds, AllHold, Lasts, Grows, Sound, of_binding, of_scope, of_each, last_value, bound_vars, bound_scopes}
use Rattle.std.proofs.Common.{◌≡◌, ◌-◌, ◌∷◌, ◌++◌}
use Rattle.class_world.specs.Bound.{value_in}
use Rattle.class_world.proofs.Claims.{all-last, all-append, all-first, all-rest}
use Rattle.class_world.proofs.Growth.{same-lasts}
use Rattle.class_world.proofs.Changes.{fixed-grow, built_in-grow}
use Rattle.class_world.proofs.Apart.{vars-apart, scopes-apart, filled-with}

abbrev Bound : Type 0
Bound = List (PyStrInterned × PyObjectRef)

-- the last one, by its place
pub last-at : (ss : List Scope) (x : PyStrInterned) (s : Scope) (n : ℕ) → suc n ≡ length ss → value_of (λ k. is_same_name k x) (get_or ss n s).vars ≡ last_value ss x
last-at [] x s n l = absurd (omega arith)
last-at (u ∷ []) x s zero l = refl
last-at (u ∷ []) x s (suc n) l = absurd (omega arith)
last-at (u ∷ (v ∷ ss)) x s zero l = absurd (omega arith)
last-at (u ∷ (v ∷ ss)) x s (suc n) l = last-at (v ∷ ss) x s n (omega arith)

pub bound-at : (ss : List Scope) (x : PyStrInterned) (r : PyObjectRef) (s : Scope) (vs : Bound) (n : ℕ) → suc n ≡ length ss → vs ≡ with_value is_same_name (get_or ss n s).vars x r → set ss n (record { func = (get_or ss n s).func; vars = vs }) ≡ bound_scopes ss x r
bound-at [] x r s vs n l k = absurd (omega arith)
bound-at (u ∷ []) x r s vs zero l k = ap (λ (vs : Bound). record { func = u.func; vars = vs } ∷ []) k
bound-at (u ∷ []) x r s vs (suc n) l k = absurd (omega arith)
bound-at (u ∷ (v ∷ ss)) x r s vs zero l k = absurd (omega arith)
bound-at (u ∷ (v ∷ ss)) x r s vs (suc n) l k = ap (λ (ss : List Scope). u ∷ ss) (bound-at (v ∷ ss) x r s vs n (omega arith) k)

module _ (t : Reading) where
  pub value-read : (bs : Bound) (x : PyStrInterned) → value_of (λ y. is_text y (spelled t x)) (bindings t bs) ≡ value_of (λ k. is_same_name k x) bs
  value-read [] x = refl
  value-read (b ∷ bs) x =
      ap (λ q. cond q (Some b.1) (value_of (λ y. is_text y (spelled t x)) (bindings t bs))) (t.same b.0.0 x.0) ∙ ap (cond (is_same_name b.0 x) (Some b.1)) (value-read bs x)

  cond-bindings : (q : Bool) (bs cs : Bound) → bindings t (cond q bs cs) ≡ cond q (bindings t bs) (bindings t cs)
  cond-bindings true bs cs = refl
  cond-bindings false bs cs = refl

  pub with_value-read : (bs : Bound) (x : PyStrInterned) (r : PyObjectRef) → bindings t (with_value is_same_name bs x r) ≡ with_value is_text (bindings t bs) (spelled t x) r
  with_value-read [] x r = refl
  with_value-read (b ∷ bs) x r =
      cond-bindings (is_same_name b.0 x) ((b.0, r) ∷ bs) (b ∷ with_value is_same_name bs x r)
      ∙ ap (λ cs. cond (is_same_name b.0 x) ((spelled t b.0, r) ∷ bindings t bs) ((spelled t b.0, b.1) ∷ cs)) (with_value-read bs x r)
      ∙ ap (λ q. cond q ((spelled t b.0, r) ∷ bindings t bs) ((spelled t b.0, b.1) ∷ with_value is_text (bindings t bs) (spelled t x) r)) (sym (t.same b.0.0 x.0))

  pub without_key-read : (bs : Bound) (x : PyStrInterned) → bindings t (without_key is_same_name bs x) ≡ without_key is_text (bindings t bs) (spelled t x)
  without_key-read [] x = refl
  without_key-read (b ∷ bs) x =
      cond-bindings (is_same_name b.0 x) (without_key is_same_name bs x) (b ∷ without_key is_same_name bs x)
      ∙ ap (λ cs. cond (is_same_name b.0 x) cs ((spelled t b.0, b.1) ∷ cs)) (without_key-read bs x)
      ∙ ap (λ q. cond q (without_key is_text (bindings t bs) (spelled t x)) ((spelled t b.0, b.1) ∷ without_key is_text (bindings t bs) (spelled t x))) (sym (t.same b.0.0 x.0))

  pub last-read : (ss : List Scope) (x : PyStrInterned) → in_last (map (scope_of t) ss) (spelled t x) ≡ last_value ss x
  last-read [] x = refl
  last-read (s ∷ []) x = value-read s.vars x
  last-read (s ∷ (u ∷ ss)) x = last-read (u ∷ ss) x

  pub bound-read : (ss : List Scope) (vars : Bound) (x : PyStrInterned) (r : PyObjectRef) → bindings t (bound_vars ss vars x r) ≡ bound (map (scope_of t) ss) (bindings t vars) (spelled t x) r
  bound-read [] vars x r = with_value-read vars x r
  bound-read (s ∷ ss) vars x r = refl

  pub scopes-read : (ss : List Scope) (x : PyStrInterned) (r : PyObjectRef) → map (scope_of t) (bound_scopes ss x r) ≡ bound_last (map (scope_of t) ss) (spelled t x) r
  scopes-read [] x r = refl
  scopes-read (s ∷ []) x r = ap (λ vs. record { func = s.func; vars = vs } ∷ []) (with_value-read s.vars x r)
  scopes-read (s ∷ (u ∷ ss)) x r = ap (λ ss. scope_of t s ∷ ss) (scopes-read (u ∷ ss) x r)

length-map : {A B : Type 0} (f : A → B) (xs : List A) → length (map f xs) ≡ length xs
length-map f [] = refl
length-map f (x ∷ xs) = ap suc (length-map f xs)

map-taken : {A B : Type 0} (f : A → B) (n : ℕ) (xs : List A) → map f (take n xs) ≡ take n (map f xs)
map-taken f zero xs = refl
map-taken f (suc n) [] = refl
map-taken f (suc n) (x ∷ xs) = ap (λ ys. f x ∷ ys) (map-taken f n xs)

map-pushed : {A B : Type 0} (f : A → B) (xs : List A) (x : A) → map f (xs ++ x ∷ []) ≡ map f xs ++ f x ∷ []
map-pushed f [] x = refl
map-pushed f (y ∷ xs) x = ap (λ ys. f y ∷ ys) (map-pushed f xs x)

pub variable-read : (w now : Held) (x : PyStrInterned) → w ≡ now → (t : Reading) → variable (plain t now) (t.text x.0) ≡ value_in w.scopes w.vars x
unfolding plain
variable-read w now x v t =
    subst (λ n. variable (plain t n) (t.text x.0) ≡ value_in w.scopes w.vars x) v
    (ap (λ o. or_else_var o (value_of (λ y. is_text y (spelled t x)) (bindings t w.vars))) (last-read t w.scopes x) ∙ ap (or_else_var (last_value w.scopes x)) (value-read t w.vars x))

pub binding-read : (w now : Held) (x : PyStrInterned) (r : PyObjectRef) → w ≡ now → (t : Reading) → plain t (record w { vars = bound_vars w.scopes w.vars x r; scopes = bound_scopes w.scopes x r }) ≡ with_binding (plain t now) (t.text x.0) r
unfolding plain
binding-read w now x r v t =
    subst (λ n. plain t (record w { vars = bound_vars w.scopes w.vars x r; scopes = bound_scopes w.scopes x r }) ≡ with_binding (plain t n) (t.text x.0) r) v
    (let a = bound-read t w.scopes w.vars x r in let b = scopes-read t w.scopes x r in cc (a, b))

pub scope-read : (w now : Held) (s : Scope) (start : Started) → w ≡ now → (t : Reading) → plain t (record w { scopes = w.scopes ++ s ∷ []; calls = w.calls ++ start ∷ [] }) ≡ with_scope (plain t now) (scope_of t s) start
unfolding plain
scope-read w now s start v t =
    subst (λ n. plain t (record w { scopes = w.scopes ++ s ∷ []; calls = w.calls ++ start ∷ [] }) ≡ with_scope (plain t n) (scope_of t s) start) v
    (ap (λ ss. record (plain t w) { scopes = ss; calls = w.calls ++ start ∷ [] }) (map-pushed (scope_of t) w.scopes s))

pub closed-read : (w now : Held) (n : ℕ) → w ≡ now → n ≡ length w.scopes → (t : Reading) → plain t (record w { scopes = take (n - 1) w.scopes }) ≡ without_scope (plain t now)
unfolding plain
closed-read w now n v e t =
    subst (λ m. plain t (record w { scopes = take (n - 1) w.scopes }) ≡ without_scope (plain t m)) v
    (ap (λ ss. record (plain t w) { scopes = ss }) (map-taken (scope_of t) (n - 1) w.scopes ∙ ap (λ k. take (k - 1) (map (scope_of t) w.scopes)) (e ∙ sym (length-map (scope_of t) w.scopes))))

module _ (w : Held) where
  pub value-holds : (test : PyStrInterned → Bool) (bs : Bound) → AllHold w (of_each of_binding bs) → IfSome (value_of test bs) (λ r. Holds w (IsNode r))
  value-holds test [] h = tt
  value-holds test (b ∷ bs) h = go (test b.0) (value-holds test bs h.1.1)
    where
      go : (q : Bool) → IfSome (value_of test bs) (λ r. Holds w (IsNode r)) → IfSome (cond q (Some b.1) (value_of test bs)) (λ r. Holds w (IsNode r))
      go true k = h.1.0
      go false k = k

  pub with_value-holds : (bs : Bound) (x : PyStrInterned) (r : PyObjectRef) → AllHold w (of_each of_binding bs) → Holds w (IsName x) → Holds w (IsNode r) → AllHold w (of_each of_binding (with_value is_same_name bs x r))
  with_value-holds [] x r h n k = (n, (k, tt))
  with_value-holds (b ∷ bs) x r h n k = go (is_same_name b.0 x) (with_value-holds bs x r h.1.1 n k)
    where
      go : (q : Bool) → AllHold w (of_each of_binding (with_value is_same_name bs x r)) → AllHold w (of_each of_binding (cond q ((b.0, r) ∷ bs) (b ∷ with_value is_same_name bs x r)))
      go true rest = (h.0, (k, h.1.1))
      go false rest = (h.0, (h.1.0, rest))

  pub without_key-holds : (bs : Bound) (x : PyStrInterned) → AllHold w (of_each of_binding bs) → AllHold w (of_each of_binding (without_key is_same_name bs x))
  without_key-holds [] x h = tt
  without_key-holds (b ∷ bs) x h = go (is_same_name b.0 x) (without_key-holds bs x h.1.1)
    where
      go : (q : Bool) → AllHold w (of_each of_binding (without_key is_same_name bs x)) → AllHold w (of_each of_binding (cond q (without_key is_same_name bs x) (b ∷ without_key is_same_name bs x)))
      go true rest = rest
      go false rest = (h.0, (h.1.0, rest))

  pub last-holds : (ss : List Scope) (x : PyStrInterned) → AllHold w (of_each of_scope ss) → IfSome (last_value ss x) (λ r. Holds w (IsNode r))
  last-holds [] x h = tt
  last-holds (s ∷ []) x h = value-holds (λ k. is_same_name k x) s.vars (all-first w (of_scope s) [] h).1.1
  last-holds (s ∷ (u ∷ ss)) x h = last-holds (u ∷ ss) x (all-rest w (of_scope s) _ h)

  pub value_in-holds : (ss : List Scope) (vars : Bound) (x : PyStrInterned) → AllHold w (of_each of_scope ss) → AllHold w (of_each of_binding vars) → IfSome (value_in ss vars x) (λ r. Holds w (IsNode r))
  value_in-holds ss vars x h k = go (last_value ss x) (last-holds ss x h)
    where
      go : (o : Option PyObjectRef) → IfSome o (λ r. Holds w (IsNode r)) → IfSome (or_else_var o (value_of (λ k. is_same_name k x) vars)) (λ r. Holds w (IsNode r))
      go None p = value-holds (λ k. is_same_name k x) vars k
      go (Some r) p = p

  pub bound_vars-holds : (ss : List Scope) (vars : Bound) (x : PyStrInterned) (r : PyObjectRef) → AllHold w (of_each of_binding vars) → Holds w (IsName x) → Holds w (IsNode r) → AllHold w (of_each of_binding (bound_vars ss vars x r))
  bound_vars-holds [] vars x r h n k = with_value-holds vars x r h n k
  bound_vars-holds (s ∷ ss) vars x r h n k = h

  pub bound_scopes-holds : (ss : List Scope) (x : PyStrInterned) (r : PyObjectRef) → AllHold w (of_each of_scope ss) → Holds w (IsName x) → Holds w (IsNode r) → AllHold w (of_each of_scope (bound_scopes ss x r))
  bound_scopes-holds [] x r h n k = tt
  bound_scopes-holds (s ∷ []) x r h n k =
      let first = all-first w (of_scope s) [] h in
      (first.0, (filled-with w s.func s.vars x r first.1.0, all-append w (of_each of_binding (with_value is_same_name s.vars x r)) [] (with_value-holds s.vars x r first.1.1 n k) tt))
  bound_scopes-holds (s ∷ (u ∷ ss)) x r h n k =
      all-append w (of_scope s) _ (all-first w (of_scope s) _ h) (bound_scopes-holds (u ∷ ss) x r (all-rest w (of_scope s) _ h) n k)

-- other variables, scopes and notes
pub other-lasts : (w : Held) (vars : Bound) (scopes : List Scope) (calls : List Started) → Lasts w (record w { vars = vars; scopes = scopes; calls = calls })
other-lasts w vars scopes calls = same-lasts w (record w { vars = vars; scopes = scopes; calls = calls }) refl refl refl refl refl

other-grows : (w : Held) (vars : Bound) (scopes : List Scope) → length scopes ≡ length w.scopes → Grows w (record w { vars = vars; scopes = scopes })
other-grows w vars scopes e = record { still = (other-lasts w vars scopes w.calls).still; log = (other-lasts w vars scopes w.calls).log; bodies = e; notes = refl }

length-bound : (ss : List Scope) (x : PyStrInterned) (r : PyObjectRef) → length (bound_scopes ss x r) ≡ length ss
length-bound [] x r = refl
length-bound (s ∷ []) x r = refl
length-bound (s ∷ (u ∷ ss)) x r = ap suc (length-bound (u ∷ ss) x r)

pub other-sound : (w : Held) (vars : Bound) (scopes : List Scope) (calls : List Started) → Sound w → AllHold w (of_each of_binding vars) → AllHold w (of_each of_scope scopes) → AreNamesDistinct vars → All (λ (s : Scope). AreNamesDistinct s.vars) scopes → Sound (record w { vars = vars; scopes = scopes; calls = calls })
other-sound w vars scopes calls s h k a b =
    let new = record w { vars = vars; scopes = scopes; calls = calls } in
    let more = other-lasts w vars scopes calls in
    let go = all-last w new more in
    record { forms = go _ s.forms; below = s.below; nodes = go _ s.nodes; classes = go _ s.classes; vars = go _ h; scopes = go _ k; fixed = fixed-grow w new s.fixed more; built_in = built_in-grow w new s.built_in more; own = λ b. more.still _ (s.own b); flags = λ b. more.still _ (s.flags b); of_none = more.still _ s.of_none; unmarked = s.unmarked; standing = λ c e. more.still _ (s.standing c e); itself = s.itself; apart = a; scopes_apart = b; known = s.known; logged = s.logged }

-- a variable is bound, or memory ran out and nothing changed
module _ {A E : Type 0} (w : Held) (x : PyStrInterned) (r : PyObjectRef) (vars : Bound) (scopes : List Scope) where
  pub bind-sound : (o : Result A E) → OnOk o (vars ≡ bound_vars w.scopes w.vars x r) → OnOk o (scopes ≡ bound_scopes w.scopes x r) → OnErr o (vars ≡ w.vars) → OnErr o (scopes ≡ w.scopes) → Sound w → Holds w (IsName x) → Holds w (IsNode r) → Sound (record w { vars = vars; scopes = scopes })
  bind-sound (Ok a) p q f g s n k =
      other-sound w vars scopes w.calls s (subst (λ vs. AllHold w (of_each of_binding vs)) (sym p) (bound_vars-holds w w.scopes w.vars x r s.vars n k)) (subst (λ ss. AllHold w (of_each of_scope ss)) (sym q) (bound_scopes-holds w w.scopes x r s.scopes n k))
      (subst (λ vs. AreNamesDistinct vs) (sym p) (vars-apart w.scopes w.vars x r s.apart)) (subst (λ ss. All (λ (s : Scope). AreNamesDistinct s.vars) ss) (sym q) (scopes-apart w.scopes x r s.scopes_apart))
  bind-sound (Err e) p q f g s n k =
      other-sound w vars scopes w.calls s (subst (λ vs. AllHold w (of_each of_binding vs)) (sym f) s.vars) (subst (λ ss. AllHold w (of_each of_scope ss)) (sym g) s.scopes)
      (subst (λ vs. AreNamesDistinct vs) (sym f) s.apart) (subst (λ ss. All (λ (s : Scope). AreNamesDistinct s.vars) ss) (sym g) s.scopes_apart)

  pub bind-grows : (o : Result A E) → OnOk o (scopes ≡ bound_scopes w.scopes x r) → OnErr o (scopes ≡ w.scopes) → Grows w (record w { vars = vars; scopes = scopes })
  bind-grows (Ok a) q g = other-grows w vars scopes (ap length q ∙ length-bound w.scopes x r)
  bind-grows (Err e) q g = other-grows w vars scopes (ap length g)

  pub bind-read : (now : Held) (o : Result A E) → OnOk o (vars ≡ bound_vars w.scopes w.vars x r) → OnOk o (scopes ≡ bound_scopes w.scopes x r) → w ≡ now → OnOk o ((t : Reading) → plain t (record w { vars = vars; scopes = scopes }) ≡ with_binding (plain t now) (t.text x.0) r)
  bind-read now (Ok a) p q v = λ t.
      ap (λ (vs : Bound). plain t (record w { vars = vs; scopes = scopes })) p ∙ ap (λ (ss : List Scope). plain t (record w { vars = bound_vars w.scopes w.vars x r; scopes = ss })) q ∙ binding-read w now x r v t
  bind-read now (Err e) p q v = tt

pub value-there : (w now : Held) (x : PyStrInterned) → w ≡ now → Sound w → IfSome (value_in w.scopes w.vars x) (λ r. Holds now (IsNode r))
value-there w now x v s = subst (λ n. IfSome (value_in w.scopes w.vars x) (λ r. Holds n (IsNode r))) v (value_in-holds w w.scopes w.vars x s.scopes s.vars)
