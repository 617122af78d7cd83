-- What is known of the linearisations, as the code holds it.
use Rattle.order_check.proofs.Below.{ℕ, Bool, true, false, cond, eqb, List, [], length, get_or, set, Option, Some, None, refl, sym, ap, subst, ◌∙◌, arith, below_more, option_map, option_and_then, is_some, Vec, false≢true, get_or-map, map-set, length-map, bases_of, Entry, classes, keys_of, orders, AreKeyed, known_in, over, AreKnown, IsClosedAt, IsClosedTo, AllNone, unknown}
use Rattle.std.proofs.Common.{◌≡◌, ◌+◌, ◌<◌, ◌∷◌, ◌++◌}
use Rattle.order_check.proofs.Places.{key-at, bases-at, known-at, unknown-set}
use Rattle.order_check.proofs.Knowing.{known-more}

abbrev pub items_of : Option (Vec ℕ) → Option (List ℕ)
items_of o = option_map (λ v. v.items) o

pub orders-length : (vs : List (Option (Vec ℕ))) (n : ℕ) → length vs ≡ n → length (orders vs) ≡ n
orders-length vs n e = length-map vs items_of ∙ e

pub orders-at : (vs : List (Option (Vec ℕ))) (i : ℕ) (o : Option (Vec ℕ)) → i < length vs → o ≡ get_or vs i o → get_or (orders vs) i None ≡ items_of o
orders-at vs i o l is = get_or-map items_of vs i o None l ∙ ap items_of (sym is)

pub orders-known : (h : List Entry) (vs : List (Option (Vec ℕ))) (i c : ℕ) (o : Option (Vec ℕ)) → AreKeyed h → length vs ≡ length h → i < length h → get_or (keys_of h) i 0 ≡ c → o ≡ get_or vs i o → known_in h (orders vs) c ≡ items_of o
orders-known h vs i c o d n l k is =
    ap (known_in h (orders vs)) (sym k) ∙ known-at h (orders vs) i d l ∙ orders-at vs i o (omega arith) is

pub orders-set : (vs : List (Option (Vec ℕ))) (i : ℕ) (v : Vec ℕ) → orders (set vs i (Some v)) ≡ set (orders vs) i (Some v.items)
orders-set vs i v = map-set items_of vs i (Some v)

pub all_none-more : (vs : List (Option (Vec ℕ))) → AllNone (orders vs) → AllNone (orders (vs ++ None ∷ []))
all_none-more [] a = tt
all_none-more (None ∷ vs) a = all_none-more vs a
all_none-more (Some v ∷ vs) a = absurd a

all_none-known : (h : List Entry) (os : List (Option (List ℕ))) (c : ℕ) (xs : List ℕ) → AllNone os → known_in h os c ≡ Some xs → ⊥
all_none-known [] os c xs a e = cc
all_none-known (x ∷ h) [] c xs a e = cc
all_none-known (x ∷ h) (None ∷ os) c xs a e = go (eqb x.key c) e (all_none-known h os c xs a)
  where
    go : (b : Bool) → cond b None (known_in h os c) ≡ Some xs → (known_in h os c ≡ Some xs → ⊥) → ⊥
    go true e more = cc
    go false e more = more e
all_none-known (x ∷ h) (Some ys ∷ os) c xs a e = a

pub none-known : (h : List Entry) (os : List (Option (List ℕ))) → AllNone os → AreKnown h os
unfolding AreKnown
none-known h os a c xs e = absurd (all_none-known h os c xs a e)

-- at a place where something is known
pub some-closed : (h : List Entry) (vs : List (Option (Vec ℕ))) (i : ℕ) (o : Option (Vec ℕ)) → AreKeyed h → length vs ≡ length h → i < length h → o ≡ get_or vs i o → is_some o ≡ true → IsClosedAt h (orders vs) (get_or (keys_of h) i 0)
some-closed h vs i None d n l is t e = absurd (false≢true t)
some-closed h vs i (Some v) d n l is t e = let k = orders-known h vs i (get_or (keys_of h) i 0) (Some v) d n l refl is in cc

module _ (h : List Entry) (vs : List (Option (Vec ℕ))) (i : ℕ) (e : Entry) (d : AreKeyed h) (n : length vs ≡ length h) (l : i < length h) (is : e ≡ get_or h i e) where
  bases-here : bases_of (classes h) (get_or (keys_of h) i 0) ≡ Some e.bases.items
  bases-here = ap (bases_of (classes h)) (key-at h i e l is) ∙ bases-at h i e d l is

  over-here : (r : Option (List ℕ)) → r ≡ over (known_in h (orders vs)) e.key e.bases.items → over (known_in h (orders vs)) (get_or (keys_of h) i 0) e.bases.items ≡ r
  over-here r k = ap (λ c. over (known_in h (orders vs)) c e.bases.items) (key-at h i e l is) ∙ sym k

  -- where nothing follows from the bases
  pub none-closed : None ≡ over (known_in h (orders vs)) e.key e.bases.items → IsClosedAt h (orders vs) (get_or (keys_of h) i 0)
  none-closed k p = ap (option_and_then (over (known_in h (orders vs)) (get_or (keys_of h) i 0))) bases-here ∙ over-here None k

  -- where an order follows
  pub set-known : (v : Vec ℕ) → AreKnown h (orders vs) → Some v.items ≡ over (known_in h (orders vs)) e.key e.bases.items → AreKnown h (orders (set vs i (Some v)))
  set-known v known k =
      let P : List (Option (List ℕ)) → Type 0 = λ os. AreKnown h os in
      subst P (sym (orders-set vs i v)) (known-more h (orders vs) known i v.items e.bases.items d (orders-length vs (length h) n) l bases-here (over-here (Some v.items) k))

pub set-fewer : (vs : List (Option (Vec ℕ))) (i : ℕ) (o : Option (Vec ℕ)) (v : Vec ℕ) → i < length vs → o ≡ get_or vs i o → is_some o ≡ false → unknown (orders (set vs i (Some v))) < unknown (orders vs)
set-fewer vs i o v l is none =
    let P : List (Option (List ℕ)) → Type 0 = λ os. unknown os < unknown (orders vs) in
    let m : length (orders vs) ≡ length vs = orders-length vs (length vs) refl in
    subst P (sym (orders-set vs i v)) (unknown-set (orders vs) i v.items (omega arith) (orders-at vs i o l is ∙ nothing o none))
  where
    nothing : (o : Option (Vec ℕ)) → is_some o ≡ false → items_of o ≡ None
    nothing None e = refl
    nothing (Some v) e = cc

pub closed-none : (h : List Entry) (os : List (Option (List ℕ))) → IsClosedTo h os 0
unfolding IsClosedTo
closed-none h os k l = absurd (omega arith)

pub closed-more : (h : List Entry) (os : List (Option (List ℕ))) (n : ℕ) → IsClosedTo h os n → IsClosedAt h os (get_or (keys_of h) n 0) → IsClosedTo h os (n + 1)
unfolding IsClosedTo
closed-more h os n c here = below_more (λ k. IsClosedAt h os (get_or (keys_of h) k 0)) n c here
