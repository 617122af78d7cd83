-- How arguments fill parameters, as a reading has them.
use Rattle.proto_call.proofs.Below.{ℕ, zero, suc, Bool, true, false, cond, not, List, [], length, take, drop, min, get_or, map, Option, Some, None, is_none, refl, sym, ap, ◌∙◌, subst, arith, All, list_any, list_all, IsTrue, eq-eqb, All-take, All-drop, PyObjectRef, PyStrInterned, value_of, with_value, is_same_name, Text, Bindings, is_text, Held, Reading, spelled, bindings, IsName, AreNames, IsNode, AreNodes, HasParams, has_value, AreFilled, Holds, AllHold, of_binding, of_each, all-cons, all-tail, value-read, with_value-read, last_in, LastFilled, but_last, single, left_over, is_member, value_at, with_keywords, all_filled}
use Rattle.std.proofs.Common.{◌≡◌, ◌-◌, ◌<◌, ◌≤◌, ◌&&◌, ◌||◌, ◌∷◌, is_some, IfSome}
use Rattle.class_world.specs.Sound.{HasValues}

abbrev Names : Type 0
Names = List PyStrInterned

abbrev Bound : Type 0
Bound = List (PyStrInterned × PyObjectRef)

pub but_last-read : (f : PyStrInterned → Text) (xs : Names) (n : ℕ) → n ≡ length xs - 1 → map f (take n xs) ≡ but_last (map f xs)
but_last-read f [] zero e = refl
but_last-read f [] (suc n) e = refl
but_last-read f (x ∷ []) zero e = refl
but_last-read f (x ∷ []) (suc n) e = absurd (omega arith)
but_last-read f (x ∷ (y ∷ ys)) zero e = absurd (omega arith)
but_last-read f (x ∷ (y ∷ ys)) (suc n) e = ap (λ ts. f x ∷ ts) (but_last-read f (y ∷ ys) n (omega arith))

pub left_over-read : (f : PyStrInterned → Text) (xs : Names) (args : List PyObjectRef) (n : ℕ) → n ≡ min (length xs) (length args) → drop n args ≡ left_over (map f xs) args
left_over-read f [] args zero e = refl
left_over-read f [] args (suc n) e = absurd (omega arith)
left_over-read f (x ∷ xs) [] zero e = refl
left_over-read f (x ∷ xs) [] (suc n) e = absurd (omega arith)
left_over-read f (x ∷ xs) (v ∷ vs) zero e = absurd (omega arith)
left_over-read f (x ∷ xs) (v ∷ vs) (suc n) e = left_over-read f xs vs n (omega arith)

pub names-take : (w : Held) (xs : Names) (n : ℕ) → Holds w (AreNames xs) → Holds w (AreNames (take n xs))
unfolding Holds
names-take w xs n h = All-take (λ x. x.0 < length w.names) n xs h

pub nodes-drop : (w : Held) (rs : List PyObjectRef) (n : ℕ) → Holds w (AreNodes rs) → Holds w (AreNodes (drop n rs))
unfolding Holds
nodes-drop w rs n h = All-drop (λ r. r.0 < length w.nodes) n rs h

-- an element of a list, whatever stands for one that is past it
pub same-at : {A : Type 0} (xs : List A) (n : ℕ) (d e : A) → n < length xs → get_or xs n d ≡ get_or xs n e
same-at [] n d e l = absurd (omega arith)
same-at (x ∷ xs) zero d e l = refl
same-at (x ∷ xs) (suc n) d e l = same-at xs n d e (omega arith)

none-not : {A : Type 0} (o : Option A) → is_none o ≡ not (is_some o)
none-not None = refl
none-not (Some x) = refl

module _ (t : Reading) where
  pub is_member-read : (xs : Names) (x : PyStrInterned) → is_member (map (spelled t) xs) (spelled t x) ≡ list_any (λ y. is_same_name y x) xs
  is_member-read [] x = refl
  is_member-read (y ∷ xs) x =
      ap (λ b. b || is_member (map (spelled t) xs) (spelled t x)) (t.same y.0 x.0) ∙ ap (λ b. is_same_name y x || b) (is_member-read xs x)

  pub all_filled-read : (vars : Bound) (xs : Names) → all_filled (bindings t vars) (map (spelled t) xs) ≡ list_all (λ x. is_some (value_of (λ k. is_same_name k x) vars)) xs
  all_filled-read vars [] = refl
  all_filled-read vars (x ∷ xs) =
      ap (λ o. is_some o && all_filled (bindings t vars) (map (spelled t) xs)) (value-read t vars x) ∙ ap (λ b. is_some (value_of (λ k. is_same_name k x) vars) && b) (all_filled-read vars xs)

  -- a keyword that names a parameter fills it where it has no value
  pub open-read : (ps : List Text) (vars : Bound) (x : PyStrInterned) (has : Bool) → is_member ps (spelled t x) ≡ true → has ≡ is_some (value_of (λ k. is_same_name k x) vars) → (is_member ps (spelled t x) && is_none (value_at (bindings t vars) (spelled t x))) ≡ not has
  open-read ps vars x has e h =
      ap (λ b. b && is_none (value_at (bindings t vars) (spelled t x))) e ∙ ap (λ o. is_none o) (value-read t vars x) ∙ none-not (value_of (λ k. is_same_name k x) vars) ∙ ap not (sym h)

  -- the next keyword fills a parameter, where it may
  pub keyword-step : (ps : List Text) (vars : Bindings) (kw : Bound) (n : ℕ) (k : PyStrInterned × PyObjectRef) → n < length kw → k ≡ get_or kw n k → with_keywords ps vars (bindings t (drop n kw)) ≡ cond (is_member ps (spelled t k.0) && is_none (value_at vars (spelled t k.0))) (with_keywords ps (with_value is_text vars (spelled t k.0) k.1) (bindings t (drop (suc n) kw))) None
  keyword-step ps vars [] n k l e = absurd (omega arith)
  keyword-step ps vars (j ∷ kw) zero k l e =
      ap (λ (k : PyStrInterned × PyObjectRef). cond (is_member ps (spelled t k.0) && is_none (value_at vars (spelled t k.0))) (with_keywords ps (with_value is_text vars (spelled t k.0) k.1) (bindings t kw)) None) (sym e)
  keyword-step ps vars (j ∷ kw) (suc n) k l e = keyword-step ps vars kw n k (omega arith) e

  pub keyword-next : (ps : List Text) (vars : Bound) (kw : Bound) (n : ℕ) (k : PyStrInterned × PyObjectRef) → n < length kw → k ≡ get_or kw n k → (is_member ps (spelled t k.0) && is_none (value_at (bindings t vars) (spelled t k.0))) ≡ true → with_keywords ps (bindings t vars) (bindings t (drop n kw)) ≡ with_keywords ps (bindings t (with_value is_same_name vars k.0 k.1)) (bindings t (drop (suc n) kw))
  keyword-next ps vars kw n k l e free =
      keyword-step ps (bindings t vars) kw n k l e
      ∙ ap (λ b. cond b (with_keywords ps (with_value is_text (bindings t vars) (spelled t k.0) k.1) (bindings t (drop (suc n) kw))) None) free
      ∙ ap (λ vs. with_keywords ps vs (bindings t (drop (suc n) kw))) (sym (with_value-read t vars k.0 k.1))

  pub keywords-end : (ps : List Text) (vars : Bindings) (kw : Bound) (n : ℕ) → length kw ≤ n → with_keywords ps vars (bindings t (drop n kw)) ≡ Some vars
  keywords-end ps vars [] zero l = refl
  keywords-end ps vars [] (suc n) l = refl
  keywords-end ps vars (k ∷ kw) zero l = absurd (omega arith)
  keywords-end ps vars (k ∷ kw) (suc n) l = keywords-end ps vars kw n (omega arith)

pub binding-at : (w : Held) (bs : Bound) (n : ℕ) (b : PyStrInterned × PyObjectRef) → AllHold w (of_each of_binding bs) → n < length bs → b ≡ get_or bs n b → Holds w (IsName b.0) × Holds w (IsNode b.1)
binding-at w [] n b h l e = absurd (omega arith)
binding-at w (c ∷ bs) zero b h l e = subst (λ (b : PyStrInterned × PyObjectRef). Holds w (IsName b.0) × Holds w (IsNode b.1)) (sym e) (h.0, h.1.0)
binding-at w (c ∷ bs) (suc n) b h l e = binding-at w bs n b h.1.1 (omega arith) e

pub but_last-take : {A : Type 0} (xs : List A) (n : ℕ) → n ≡ length xs - 1 → take n xs ≡ but_last xs
but_last-take [] zero e = refl
but_last-take [] (suc n) e = refl
but_last-take (x ∷ []) zero e = refl
but_last-take (x ∷ []) (suc n) e = absurd (omega arith)
but_last-take (x ∷ (y ∷ ys)) zero e = absurd (omega arith)
but_last-take (x ∷ (y ∷ ys)) (suc n) e = ap (λ zs. x ∷ zs) (but_last-take (y ∷ ys) n (omega arith))

pub last-in : (xs : Names) (n : ℕ) (x : PyStrInterned) → suc n ≡ length xs → x ≡ get_or xs n x → IfSome (last_in xs) (λ y. y ≡ x)
last-in [] n x l e = tt
last-in (y ∷ []) zero x l e = sym e
last-in (y ∷ []) (suc n) x l e = absurd (omega arith)
last-in (y ∷ (z ∷ xs)) zero x l e = absurd (omega arith)
last-in (y ∷ (z ∷ xs)) (suc n) x l e = last-in (z ∷ xs) n x (omega arith) e

-- a value that is given is there
pub given-there : (vars : Bound) (x : PyStrInterned) (r : PyObjectRef) → has_value (with_value is_same_name vars x r) x ≡ true
given-there [] x r = ap (λ b. is_some (cond b (Some r) None)) (eq-eqb x.0 x.0 refl)
given-there (b ∷ vars) x r = go (is_same_name b.0 x) refl (given-there vars x r)
  where
    go : (q : Bool) → is_same_name b.0 x ≡ q → has_value (with_value is_same_name vars x r) x ≡ true → has_value (cond q ((b.0, r) ∷ vars) (b ∷ with_value is_same_name vars x r)) x ≡ true
    go true e h = ap (λ q. is_some (cond q (Some r) (value_of (λ k. is_same_name k x) vars))) e
    go false e h = ap (λ q. is_some (cond q (Some b.1) (value_of (λ k. is_same_name k x) (with_value is_same_name vars x r)))) e ∙ h

pub last-given : (ps : Names) (vars : Bound) (x : PyStrInterned) (r : PyObjectRef) → IfSome (last_in ps) (λ y. y ≡ x) → LastFilled ps (with_value is_same_name vars x r)
last-given ps vars x r h = go (last_in ps) h
  where
    go : (o : Option PyStrInterned) → IfSome o (λ y. y ≡ x) → IfSome o (λ y. has_value (with_value is_same_name vars x r) y ≡ true)
    go None h = tt
    go (Some y) h = subst (λ y. has_value (with_value is_same_name vars x r) y ≡ true) (sym h) (given-there vars x r)

-- all have values where all but the last and the last have
but-last-all : (vars : Bound) (ps : Names) → All (λ x. has_value vars x ≡ true) (but_last ps) → LastFilled ps vars → All (λ x. has_value vars x ≡ true) ps
but-last-all vars [] h l = h
but-last-all vars (x ∷ []) h l = all-cons (λ x. has_value vars x ≡ true) x [] l h
but-last-all vars (x ∷ (y ∷ ys)) h l =
    all-cons (λ x. has_value vars x ≡ true) x (y ∷ ys) (h 0 x (omega arith)) (but-last-all vars (y ∷ ys) (all-tail (λ x. has_value vars x ≡ true) x (but_last (y ∷ ys)) h) l)

all-have : (vars : Bound) (ps : Names) (rest : Bool) → All (λ x. has_value vars x ≡ true) (single rest ps) → (IsTrue rest → LastFilled ps vars) → All (λ x. has_value vars x ≡ true) ps
all-have vars ps true h l = but-last-all vars ps h (l refl)
all-have vars ps false h l = h

-- so each parameter of the function has a value
pub values-there : (w : Held) (f : PyObjectRef) (vars more : Bound) (ps singles : Names) (rest : Bool) → Holds w (HasParams f ps) → singles ≡ single rest ps → All (λ x. has_value more x ≡ true) singles → (IsTrue rest → LastFilled ps vars) → ((x : PyStrInterned) → has_value vars x ≡ true → has_value more x ≡ true) → Holds w (HasValues f more)
unfolding Holds
values-there w f vars more ps singles rest p e h l keeps =
    subst (AreFilled more) (sym p) (all-have more ps rest (subst (λ xs. All (λ x. has_value more x ≡ true) xs) e h) (λ r. kept (last_in ps) (l r)))
  where
    kept : (o : Option PyStrInterned) → IfSome o (λ x. has_value vars x ≡ true) → IfSome o (λ x. has_value more x ≡ true)
    kept None h = tt
    kept (Some x) h = keeps x h
