-- Lists of claims.
use Rattle.class_world.proofs.Below.{ℕ, zero, suc, List, [], length, take, Some, refl, sym, ap, subst, arith, get_or, map, slice_get, Held, ExprRef, PyObjectRef, Claim, IsNode, AreNodes, IsExpression, AreExpressions, Holds, AllHold, Lasts, Grows, of_each}
use Rattle.std.proofs.Common.{◌≡◌, ◌<◌, ◌∷◌, ◌++◌}

pub all-last : (old new : Held) → Lasts old new → (cs : List Claim) → AllHold old cs → AllHold new cs
all-last old new g [] h = tt
all-last old new g (c ∷ cs) h = (g.still c h.0, all-last old new g cs h.1)

pub all-grow : (old new : Held) → Grows old new → (cs : List Claim) → AllHold old cs → AllHold new cs
all-grow old new g [] h = tt
all-grow old new g (c ∷ cs) h = (g.still c h.0, all-grow old new g cs h.1)

-- what is said of a world's value, and of its fields
pub seen : (w now : Held) (cs : List Claim) → w ≡ now → AllHold w cs → AllHold now cs
seen w now cs e h = subst (λ w. AllHold w cs) e h

pub opened : (w now : Held) (cs : List Claim) → w ≡ now → AllHold now cs → AllHold w cs
opened w now cs e h = subst (λ w. AllHold w cs) (sym e) h

pub opened-one : (w now : Held) (c : Claim) → w ≡ now → Holds now c → Holds w c
opened-one w now c e h = subst (λ w. Holds w c) (sym e) h

module _ (w : Held) where
  pub all-append : (cs ds : List Claim) → AllHold w cs → AllHold w ds → AllHold w (cs ++ ds)
  all-append [] ds g h = h
  all-append (c ∷ cs) ds g h = (g.0, all-append cs ds g.1 h)

  pub all-first : (cs ds : List Claim) → AllHold w (cs ++ ds) → AllHold w cs
  all-first [] ds h = tt
  all-first (c ∷ cs) ds h = (h.0, all-first cs ds h.1)

  pub all-rest : (cs ds : List Claim) → AllHold w (cs ++ ds) → AllHold w ds
  all-rest [] ds h = h
  all-rest (c ∷ cs) ds h = all-rest cs ds h.1

module _ {A : Type 0} (w : Held) (of : A → List Claim) where
  pub each-append : (xs ys : List A) → AllHold w (of_each of xs) → AllHold w (of_each of ys) → AllHold w (of_each of (xs ++ ys))
  each-append [] ys g h = h
  each-append (x ∷ xs) ys g h = all-append w (of x) _ (all-first w (of x) _ g) (each-append xs ys (all-rest w (of x) _ g) h)

  pub each-one : (x : A) → AllHold w (of x) → AllHold w (of_each of (x ∷ []))
  each-one x h = all-append w (of x) [] h tt

  pub each-push : (xs : List A) (x : A) → AllHold w (of_each of xs) → AllHold w (of x) → AllHold w (of_each of (xs ++ x ∷ []))
  each-push xs x g h = each-append xs (x ∷ []) g (each-one x h)

  pub each-pop : (xs : List A) (x : A) → AllHold w (of_each of (xs ++ x ∷ [])) → AllHold w (of_each of xs) × AllHold w (of x)
  each-pop [] x g = (tt, all-first w (of x) [] g)
  each-pop (y ∷ xs) x g =
      let h = each-pop xs x (all-rest w (of y) _ g) in
      (all-append w (of y) _ (all-first w (of y) _ g) h.0, h.1)

  pub each-get : (xs : List A) (n : ℕ) (x : A) → slice_get xs n ≡ Some x → AllHold w (of_each of xs) → AllHold w (of x)
  each-get [] n x e g = cc
  each-get (y ∷ xs) zero x e g = let same : y ≡ x = cc in subst (λ x. AllHold w (of x)) same (all-first w (of y) _ g)
  each-get (y ∷ xs) (suc n) x e g = each-get xs n x e (all-rest w (of y) _ g)

  pub each-take : (xs : List A) (n : ℕ) → AllHold w (of_each of xs) → AllHold w (of_each of (take n xs))
  each-take xs zero g = tt
  each-take [] (suc n) g = tt
  each-take (y ∷ xs) (suc n) g = all-append w (of y) _ (all-first w (of y) _ g) (each-take xs n (all-rest w (of y) _ g))

-- an element by its place
pub got : {A : Type 0} (xs : List A) (n : ℕ) (x : A) → n < length xs → x ≡ get_or xs n x → slice_get xs n ≡ Some x
got [] n x h e = absurd (omega arith)
got (y ∷ xs) zero x h e = ap Some (sym e)
got (y ∷ xs) (suc n) x h e = got xs n x (omega arith) e

pub got-map : {A B : Type 0} (f : A → B) (xs : List A) (n : ℕ) (x : A) → slice_get xs n ≡ Some x → slice_get (map f xs) n ≡ Some (f x)
got-map f [] n x e = cc
got-map f (y ∷ xs) zero x e = let same : y ≡ x = cc in ap (λ x. Some (f x)) same
got-map f (y ∷ xs) (suc n) x e = got-map f xs n x e

pub get-end : {A : Type 0} (xs : List A) (y : A) → slice_get (xs ++ y ∷ []) (length xs) ≡ Some y
get-end [] y = refl
get-end (z ∷ xs) y = get-end xs y

pub get-pushed : {A : Type 0} (xs : List A) (y : A) (n : ℕ) (x : A) → slice_get xs n ≡ Some x → slice_get (xs ++ y ∷ []) n ≡ Some x
get-pushed [] y n x e = cc
get-pushed (z ∷ xs) y zero x e = e
get-pushed (z ∷ xs) y (suc n) x e = get-pushed xs y n x e

-- what is so of each element and its place is so with one more at the end
pub each-pushed : {A : Type 0} (P : ℕ → A → Type 0) (xs : List A) (y : A) → ((n : ℕ) (x : A) → slice_get xs n ≡ Some x → P n x) → P (length xs) y → (n : ℕ) (x : A) → slice_get (xs ++ y ∷ []) n ≡ Some x → P n x
each-pushed P [] y h q zero x e = let same : y ≡ x = cc in subst (P 0) same q
each-pushed P [] y h q (suc n) x e = cc
each-pushed P (z ∷ xs) y h q zero x e = h 0 x e
each-pushed P (z ∷ xs) y h q (suc n) x e = each-pushed (λ m. P (suc m)) xs y (λ m. h (suc m)) q n x e

-- lists of nodes, one by one
pub no-nodes : (w : Held) → Holds w (AreNodes [])
unfolding Holds
no-nodes w = λ i d l. absurd (omega arith)

pub more-nodes : (w : Held) (rs : List PyObjectRef) (r : PyObjectRef) → Holds w (AreNodes rs) → Holds w (IsNode r) → Holds w (AreNodes (rs ++ r ∷ []))
unfolding Holds
more-nodes w [] r h k = λ i d l. one i d l
  where
    one : (i : ℕ) (d : PyObjectRef) → i < length (r ∷ []) → (get_or (r ∷ []) i d).0 < length w.nodes
    one zero d l = k
    one (suc i) d l = absurd (omega arith)
more-nodes w (s ∷ rs) r h k = λ i d l. go i d l (more-nodes w rs r (λ i d l. h (suc i) d (omega arith)) k)
  where
    go : (i : ℕ) (d : PyObjectRef) → i < length (s ∷ (rs ++ r ∷ [])) → Holds w (AreNodes (rs ++ r ∷ [])) → (get_or (s ∷ (rs ++ r ∷ [])) i d).0 < length w.nodes
    go zero d l rest = h 0 d (omega arith)
    go (suc i) d l rest = rest i d (omega arith)

pub node-in : (w : Held) (rs : List PyObjectRef) (n : ℕ) (r : PyObjectRef) → Holds w (AreNodes rs) → slice_get rs n ≡ Some r → Holds w (IsNode r)
unfolding Holds
node-in w [] n r h e = cc
node-in w (s ∷ rs) zero r h e = let same : s ≡ r = cc in subst (λ r. r.0 < length w.nodes) same (h 0 s (omega arith))
node-in w (s ∷ rs) (suc n) r h e = node-in w rs n r (λ i d l. h (suc i) d (omega arith)) e

pub expression-in : (w : Held) (es : List ExprRef) (n : ℕ) (e : ExprRef) → Holds w (AreExpressions es) → slice_get es n ≡ Some e → Holds w (IsExpression e)
unfolding Holds
expression-in w [] n e h k = cc
expression-in w (x ∷ es) zero e h k = let same : x ≡ e = cc in subst (λ e. e.0 < length w.forms) same (h 0 x (omega arith))
expression-in w (x ∷ es) (suc n) e h k = expression-in w es n e (λ i d l. h (suc i) d (omega arith)) k
