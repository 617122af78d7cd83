-- The classes that are spelled have the keys from 0 on, and their bases come before them.
use Rattle.order_check.proofs.Below.{ℕ, zero, suc, nat_lt, Bool, true, false, cond, List, [], length, take, map, Option, Some, None, Ok, ok_or, inl, inr, refl, sym, subst, ◌∙◌, arith, IfOk, Result, bytes_eq, slice_get, position_or_len, ltb-true, length-append, slice_get_within, Data, null, boolean, number, string, array, object, Items, no_items, item, Text, of_two, ScriptFault, Shape, Includes, Distinct, Entry, Hierarchy, IsInOrder, Named, PlainClass, and_after, class_after, classes_after, classes_in, classes_of, key_of, keyed, named_of, or_first, plain_class, with_first}
use Rattle.std.proofs.Common.{◌≡◌, ◌+◌, ◌<◌, ◌≤◌, if◌then◌else◌, ◌∷◌, ◌++◌, option_map, Err, is_some, codes}
use Rattle.order_check.specs.Hierarchy as hierarchy
use Rattle.order_check.proofs.Paired.{before-or-at}
use Rattle.order_check.specs.HierarchyText.Spelled.{keys_of}

-- each of some numbers is below n
abbrev AreBelow : List ℕ → ℕ → Type 0
AreBelow ks n = (b : ℕ) → Includes ks b → b < n

-- classes whose keys count on from n, with their bases before them
abbrev pub AreNumbered : ℕ → List PlainClass → Type 0
AreNumbered n [] = Unit {0}
AreNumbered n (c ∷ cs) = (c.key ≡ n) × AreBelow c.bases n × AreNumbered (suc n) cs

-- what is spelled

key-below : (names : List Text) (t : Text) (k : ℕ) → key_of names t ≡ Some k → k < length names
key-below names t k h = by (nat_lt n (length names)) refl h
  where
    n : ℕ
    n = position_or_len (bytes_eq t) names

    by : (b : Bool) → nat_lt n (length names) ≡ b → cond b (Some n) None ≡ Some k → k < length names
    by true e s = let less = ltb-true n (length names) e in let same : n ≡ k = cc in omega arith
    by false e s = cc

keys-below : (names bs : List Text) (ks : List ℕ) → keys_of names bs ≡ Some ks → AreBelow ks (length names)
keys-below names [] ks h = λ b i.
    let none : [] ≡ ks = cc in
    let P : List ℕ → Type 0 = λ l. Includes l b in
    absurd (subst P (sym none) i)
keys-below names (t ∷ ts) ks h = by (key_of names t) (keys_of names ts) refl h (keys-below names ts)
  where
    by : (o : Option ℕ) (os : Option (List ℕ)) → key_of names t ≡ o → of_two ◌∷◌ o os ≡ Some ks
        → ((l : List ℕ) → os ≡ Some l → AreBelow l (length names)) → AreBelow ks (length names)
    by None os e s rest b i = cc
    by (Some k) None e s rest b i = cc
    by (Some k) (Some l) e s rest b i =
        let same : k ∷ l ≡ ks = cc in
        let P : List ℕ → Type 0 = λ w. Includes w b in
        let Q : ℕ → Type 0 = λ w. w < length names in
        elim (subst P (sym same) i) [ inl j ↦ subst Q j (key-below names t k e) | inr j ↦ rest l refl b j ]

first-below : (ks : List ℕ) (n : ℕ) → 0 < n → AreBelow ks n → AreBelow (or_first ks) n
first-below [] n some below = λ b i. elim i [ inl e ↦ (let Q : ℕ → Type 0 = λ w. w < n in subst Q e some) | inr j ↦ absurd j ]
first-below (k ∷ ks) n some below = below

-- a class that comes after some names
class-numbered : (names : List Text) (p : Named) (c : PlainClass) → 0 < length names → class_after names p ≡ Some c → (c.key ≡ length names) × AreBelow c.bases (length names)
class-numbered names p c some h = by (is_some (key_of names p.0)) (keys_of names p.1) refl h
  where
    N : PlainClass → Type 0
    N w = (w.key ≡ length names) × AreBelow w.bases (length names)

    by : (b : Bool) (os : Option (List ℕ)) → keys_of names p.1 ≡ os → (if b then None else option_map (keyed names p.0) os) ≡ Some c → N c
    by true os e s = absurd cc
    by false None e s = absurd cc
    by false (Some ks) e s =
        let same : keyed names p.0 ks ≡ c = cc in
        subst N same (refl, first-below ks (length names) some (keys-below names p.1 ks e))

-- one more class before others
more-numbered : (names : List Text) (p : Named) (o : Option PlainClass) (os : Option (List PlainClass)) (cs : List PlainClass) → 0 < length names → class_after names p ≡ o → of_two ◌∷◌ o os ≡ Some cs
    → ((l : List PlainClass) → os ≡ Some l → AreNumbered (length (names ++ p.0 ∷ [])) l) → AreNumbered (length names) cs
more-numbered names p None os cs some e s rest = absurd cc
more-numbered names p (Some c) None cs some e s rest = absurd cc
more-numbered names p (Some c) (Some l) cs some e s rest =
    let same : c ∷ l ≡ cs = cc in
    let one = class-numbered names p c some e in
    let longer : length (names ++ p.0 ∷ []) ≡ suc (length names) = omega (arith, length-append names (p.0 ∷ [])) in
    let P : ℕ → Type 0 = λ w. AreNumbered w l in
    subst (AreNumbered (length names)) same (one.0, one.1, subst P longer (rest l refl))

after-numbered : (names : List Text) (ds : Items) (cs : List PlainClass) → 0 < length names → classes_after names ds ≡ Some cs → AreNumbered (length names) cs
unfolding classes_after
after-numbered names no_items cs some h =
    let none : [] ≡ cs = cc in
    subst (AreNumbered (length names)) none tt
after-numbered names (item d ds) cs some h = by (named_of d) h (λ more l some t. after-numbered more ds l some t)
  where
    by : (p : Option Named) → and_after names p (λ more. classes_after more ds) ≡ Some cs
        → ((more : List Text) (l : List PlainClass) → 0 < length more → classes_after more ds ≡ Some l → AreNumbered (length more) l) → AreNumbered (length names) cs
    by None s rest = absurd cc
    by (Some p) s rest =
        let longer : 0 < length (names ++ p.0 ∷ []) = omega (arith, length-append names (p.0 ∷ [])) in
        more-numbered names p (class_after names p) (classes_after (names ++ p.0 ∷ []) ds) cs some refl s (λ l t. rest (names ++ p.0 ∷ []) l longer t)

in-numbered : (ds : Items) (cs : List PlainClass) → classes_in ds ≡ Ok cs → AreNumbered 0 cs
unfolding classes_in
in-numbered no_items cs h = absurd cc
in-numbered (item d ds) cs h = by (classes_after (codes "object" ∷ []) (item d ds)) refl h
  where
    by : (o : Option (List PlainClass)) → classes_after (codes "object" ∷ []) (item d ds) ≡ o → ok_or (option_map with_first o) Shape ≡ Ok cs → AreNumbered 0 cs
    by None e s = absurd cc
    by (Some l) e s =
        let same : with_first l ≡ cs = cc in
        subst (AreNumbered 0) same (refl, λ b i. absurd i, after-numbered (codes "object" ∷ []) (item d ds) l (omega arith) e)

of-numbered : (d : Data) (cs : List PlainClass) → classes_of d ≡ Ok cs → AreNumbered 0 cs
unfolding classes_of
of-numbered (array ds) cs h = in-numbered ds cs h
of-numbered null cs h = absurd cc
of-numbered (boolean b) cs h = absurd cc
of-numbered (number n) cs h = absurd cc
of-numbered (string s) cs h = absurd cc
of-numbered (object ms) cs h = absurd cc

-- what is numbered is in order

from-first : (n : ℕ) (h : List Entry) (b : ℕ) → AreNumbered n (map plain_class h) → Includes (hierarchy.keys_of h) b → n ≤ b
from-first n [] b a i = absurd i
from-first n (e ∷ h) b a (inl k) = let first = a.0 in omega (arith, first, k)
from-first n (e ∷ h) b a (inr i) = let more = from-first (suc n) h b a.2 i in omega arith

numbered-keyed : (n : ℕ) (h : List Entry) → AreNumbered n (map plain_class h) → Distinct (hierarchy.keys_of h)
numbered-keyed n [] a = tt
numbered-keyed n (e ∷ h) a = (
  λ i. let more = from-first (suc n) h e.key a.2 i in let first = a.0 in omega (arith, first, more),
  numbered-keyed (suc n) h a.2,
)

bases-below : (n : ℕ) (h : List Entry) (k : ℕ) (e : Entry) → AreNumbered n (map plain_class h) → slice_get h k ≡ Some e → AreBelow e.bases.items (n + k)
bases-below n [] k e a s b i = cc
bases-below n (d ∷ h) zero e a s b i =
    let same : e ≡ d = cc in
    let P : Entry → Type 0 = λ w. Includes w.bases.items b in
    let less = a.1 b (subst P same i) in
    omega (arith, less)
bases-below n (d ∷ h) (suc k) e a s b i = let less = bases-below (suc n) h k e a.2 s b i in omega (arith, less)

keys-taken : (n : ℕ) (h : List Entry) (k b : ℕ) → AreNumbered n (map plain_class h) → k ≤ length h → n ≤ b → b < n + k → Includes (take k (hierarchy.keys_of h)) b
keys-taken n h zero b a within from below = absurd (omega arith)
keys-taken n [] (suc k) b a within from below = absurd (omega arith)
keys-taken n (e ∷ h) (suc k) b a within from below = elim (before-or-at n b (omega arith)) [
  | inl later ↦ inr (keys-taken (suc n) h k b a.2 (omega arith) (omega arith) (omega arith))
  | inr same ↦ inl (a.0 ∙ same)
]

numbered-order : (h : List Entry) → AreNumbered 0 (map plain_class h) → IsInOrder h
numbered-order h a = record {
  keyed = numbered-keyed 0 h a;
  earlier = λ k e b s i.
      let within = slice_get_within h k e s in
      let less = bases-below 0 h k e a s b i in
      keys-taken 0 h k b a (omega arith) (omega arith) (omega arith);
}

-- the classes of a value are in order
pub value-order : (d : Data) (r : Result Hierarchy ScriptFault) → IfOk r (λ h. classes_of d ≡ Ok (map plain_class h.entries.items)) → IfOk r (λ h. IsInOrder h.entries.items)
value-order d (Ok h) told = numbered-order h.entries.items (of-numbered d (map plain_class h.entries.items) told)
value-order d (Err e) told = tt
