-- No own attribute's name stands twice in a class, also when attributes are set and classes added.
use Rattle.class_table.proofs.Below.{ℕ, suc, Bool, true, false, cond, List, [], refl, arith, All, AllByRecursion, IsDistinct, keys_of, All-nil, All-cons, All-append, PyObjectRef, PyStrInterned, with_value, is_same_name, AreNamesDistinct, Class, Classes, with_class, with_changed}
use Rattle.std.proofs.Common.{◌≡◌, ◌∷◌}
use Rattle.std.specs.Prelude.{eqb}

abbrev Attrs : Type 0
Attrs = List (PyStrInterned × PyObjectRef)

Differs : PyStrInterned → Attrs → Type 0
Differs x attrs = AllByRecursion (λ y. is_same_name x y ≡ false) (keys_of attrs)

-- a name that differs from all there and from the new one
differs-set : (x : PyStrInterned) (attrs : Attrs) (n : PyStrInterned) (v : PyObjectRef) → Differs x attrs → is_same_name x n ≡ false → Differs x (with_value is_same_name attrs n v)
unfolding Differs
differs-set x [] n v all h = (h, tt)
differs-set x (a ∷ attrs) n v all h = go (is_same_name a.0 n) (differs-set x attrs n v all.1 h)
  where
    go : (b : Bool) → Differs x (with_value is_same_name attrs n v) → Differs x (cond b ((a.0, v) ∷ attrs) (a ∷ with_value is_same_name attrs n v))
    go true more = all
    go false more = (all.0, more)

pub distinct-set : (attrs : Attrs) (n : PyStrInterned) (v : PyObjectRef) → AreNamesDistinct attrs → AreNamesDistinct (with_value is_same_name attrs n v)
unfolding Differs IsDistinct
distinct-set [] n v d = (tt, tt)
distinct-set (a ∷ attrs) n v d = go (is_same_name a.0 n) refl (distinct-set attrs n v d.1)
  where
    go : (b : Bool) → is_same_name a.0 n ≡ b → AreNamesDistinct (with_value is_same_name attrs n v) → AreNamesDistinct (cond b ((a.0, v) ∷ attrs) (a ∷ with_value is_same_name attrs n v))
    go true e more = d
    go false e more = (differs-set a.0 attrs n v d.0 e, more)

all-tail : {X : Type 0} (P : X → Type 0) (x : X) (xs : List X) → All P (x ∷ xs) → All P xs
all-tail P x xs all = λ i d l. all (suc i) d (omega arith)

pub all-changed : (P : Class PyStrInterned → Type 0) (f : Class PyStrInterned → Class PyStrInterned) → ((k : Class PyStrInterned) → P k → P (f k)) → (t : Classes PyStrInterned) (c : ℕ) → All P t → All P (with_changed f t c)
all-changed P f keeps [] c all = all
all-changed P f keeps (k ∷ t) c all = go (eqb k.number c) (all-changed P f keeps t c (all-tail P k t all))
  where
    here : P k
    here = all 0 k (omega arith)

    go : (b : Bool) → All P (with_changed f t c) → All P (cond b (f k ∷ t) (k ∷ with_changed f t c))
    go true more = All-cons P (f k) t (keeps k here) (all-tail P k t all)
    go false more = All-cons P k (with_changed f t c) here more

pub all-added : (t : Classes PyStrInterned) (k : Class PyStrInterned) → All (λ k. AreNamesDistinct k.attrs) t → AreNamesDistinct k.attrs → All (λ k. AreNamesDistinct k.attrs) (with_class t k)
all-added t k all d =
    let P : Class PyStrInterned → Type 0 = λ k. AreNamesDistinct k.attrs in
    All-append P t (k ∷ []) all (All-cons P k [] d (All-nil P))
