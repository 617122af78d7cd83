-- The names that `__slots__` gives, and the descriptors of members.
use Rattle.proto_call.proofs.Below.{ℕ, zero, suc, List, [], drop, drop-cons, length, get_or, map, Option, Some, None, refl, sym, ap, ◌∙◌, subst, arith, append_assoc, option_map, IfSome, PyObjectRef, PyStrInterned, PyTypeRef, Text, place_count, all_some, PlainWorld, datum_at, next_node, with_node, with_own_attr, Held, World, Reading, Reads, plain, spelled, IsName, AreNames, Holds, Grows, grows-on, map-push, names-push, a_member, or_zero, places_from, put_member, text_of, texts_of, the_member, with_member, with_members}
use Rattle.std.proofs.Common.{◌≡◌, ◌<◌, ◌≤◌, ◌+◌, ◌-◌, ◌∷◌, ◌++◌}

-- a text, and more of them, if all are there
all_of : Option Text → Option (List Text) → Option (List Text)
all_of None o = None
all_of (Some x) o = option_map (λ xs. x ∷ xs) o

-- texts after others
abbrev before : List Text → Option (List Text) → Option (List Text)
before xs o = option_map (λ ys. xs ++ ys) o

before-next : (xs : List Text) (x : Text) (o : Option (List Text)) → before (xs ++ x ∷ []) o ≡ before xs (option_map (λ ys. x ∷ ys) o)
before-next xs x None = refl
before-next xs x (Some ys) = ap Some (append_assoc xs (x ∷ []) ys)

before-none : (o : Option (List Text)) → before [] o ≡ o
before-none None = refl
before-none (Some ys) = refl

append-none : {A : Type 0} (xs : List A) → xs ++ [] ≡ xs
append-none [] = refl
append-none (x ∷ xs) = ap (λ ys. x ∷ ys) (append-none xs)

drop-end : {A : Type 0} (xs : List A) (i : ℕ) → length xs ≤ i → drop i xs ≡ []
drop-end [] zero l = refl
drop-end [] (suc i) l = refl
drop-end (x ∷ xs) zero l = absurd (omega arith)
drop-end (x ∷ xs) (suc i) l = drop-end xs i (omega arith)

all-of : (u : PlainWorld) (a : PyObjectRef) (rest : List PyObjectRef) (p : Option Text) → text_of (datum_at u a) ≡ p → texts_of u (a ∷ rest) ≡ all_of p (texts_of u rest)
unfolding all_of
all-of u a rest None e = ap (λ o. all_some (o ∷ map (λ r. text_of (datum_at u r)) rest)) e
all-of u a rest (Some x) e = ap (λ o. all_some (o ∷ map (λ r. text_of (datum_at u r)) rest)) e

-- objects become names, one after another
pub record Texting (old now : World) (names : List PyStrInterned) (i : ℕ) (all : List PyObjectRef) : Type 0 where
  pub read : (t : Reading) → Reads t now → before (map (spelled t) names) (texts_of (plain t old) (drop i all)) ≡ texts_of (plain t old) all
  pub same : (t : Reading) → plain t now ≡ plain t old
  pub reads : (t : Reading) → Reads t now → Reads t old
  pub grows : Grows old now
  pub holds : Holds now (AreNames names)

pub texting-begins : (w : World) (names : List PyStrInterned) (all : List PyObjectRef) → names ≡ [] → Holds w (AreNames []) → Grows w w → Texting w w names 0 all
texting-begins w names all e h g = record {
  read = λ t r. ap (λ ns. before (map (spelled t) ns) (texts_of (plain t w) all)) e ∙ before-none (texts_of (plain t w) all);
  same = λ t. refl;
  reads = λ t r. r;
  grows = g;
  holds = subst (λ ns. Holds w (AreNames ns)) (sym e) h;
}

module _ (old now new : World) (names : List PyStrInterned) (i : ℕ) (all : List PyObjectRef) (d : PyObjectRef) (o : Option PyStrInterned) (h : Texting old now names i all) (l : i < length all) (n : (t : Reading) → Reads t new → text_of (datum_at (plain t now) (get_or all i d)) ≡ option_map (spelled t) o) (r : (t : Reading) → Reads t new → Reads t now) where
  next-read : (t : Reading) → Reads t new → (p : Option Text) → option_map (spelled t) o ≡ p → text_of (datum_at (plain t old) (get_or all i d)) ≡ p
  next-read t q p e = ap (λ u. text_of (datum_at u (get_or all i d))) (sym (h.same t)) ∙ n t q ∙ e

  pub texting-refused : (t : Reading) → Reads t new → o ≡ None → texts_of (plain t old) all ≡ None
  unfolding all_of
  texting-refused t q e =
      let u = plain t old in
      sym (h.read t (r t q)) ∙ ap (λ rs. before (map (spelled t) names) (texts_of u rs)) (drop-cons all i d l) ∙ ap (before (map (spelled t) names)) (all-of u (get_or all i d) (drop (suc i) all) None (next-read t q None (ap (option_map (spelled t)) e)))

  pub texting-step : (x : PyStrInterned) (more : List PyStrInterned) → o ≡ Some x → more ≡ names ++ x ∷ [] → ((t : Reading) → plain t new ≡ plain t now) → Grows now new → IfSome o (λ x. Holds new (IsName x)) → Texting old new more (suc i) all
  unfolding all_of
  texting-step x more e m s g k = record {
    read = λ t q.
        let u = plain t old in
        ap (λ ns. before (map (spelled t) ns) (texts_of u (drop (suc i) all))) m
        ∙ ap (λ xs. before xs (texts_of u (drop (suc i) all))) (map-push (spelled t) names x)
        ∙ before-next (map (spelled t) names) (spelled t x) (texts_of u (drop (suc i) all))
        ∙ ap (before (map (spelled t) names)) (sym (all-of u (get_or all i d) (drop (suc i) all) (Some (spelled t x)) (next-read t q (Some (spelled t x)) (ap (option_map (spelled t)) e))))
        ∙ ap (λ rs. before (map (spelled t) names) (texts_of u rs)) (sym (drop-cons all i d l))
        ∙ h.read t (r t q);
    same = λ t. s t ∙ h.same t;
    reads = λ t q. h.reads t (r t q);
    grows = grows-on old now new h.grows g;
    holds = subst (λ ns. Holds new (AreNames ns)) (sym m) (names-push new names x (g.still (AreNames names) h.holds) (subst (λ o. IfSome o (λ x. Holds new (IsName x))) e k));
  }

pub texting-ends : (old now : World) (names : List PyStrInterned) (i : ℕ) (all : List PyObjectRef) → Texting old now names i all → length all ≤ i → (t : Reading) → Reads t now → texts_of (plain t old) all ≡ Some (map (spelled t) names)
texting-ends old now names i all h l t r =
    sym (h.read t r) ∙ ap (λ rs. before (map (spelled t) names) (texts_of (plain t old) rs)) (drop-end all i l) ∙ ap Some (append-none (map (spelled t) names))

-- where the places of a class begin
pub places-read : (u : PlainWorld) (c : ℕ) (names : List Text) (count n : ℕ) → place_count u.classes c ≡ Some count → length names ≡ n → places_from u c names ≡ count - n
places-read u c names count n e f = (λ i. or_zero (e i) - f i)

-- the descriptor of a member
pub member-put : (u v w : PlainWorld) (c n h : ℕ) (x : Text) (r : PyObjectRef) → v ≡ with_node u h (a_member c n x) → r ≡ next_node u h → h ≡ the_member → w ≡ with_own_attr v c x r → w ≡ put_member c n x u
unfolding put_member
member-put u v w c n h x r made is home set =
    let node : v ≡ with_node u the_member (a_member c n x) = made ∙ ap (λ h. with_node u h (a_member c n x)) home in
    let next : r ≡ next_node u the_member = is ∙ ap (next_node u) home in
    set ∙ (λ i. with_own_attr (node i) c x (next i))

pub name-at : (w : Held) (xs : List PyStrInterned) (i : ℕ) (d : PyStrInterned) → i < length xs → Holds w (AreNames xs) → Holds w (IsName (get_or xs i d))
unfolding Holds
name-at w xs i d l h = h i d l

-- members get their descriptors, one after another
pub record Membering (old now : World) (class : PyTypeRef) (first i : ℕ) (names : List PyStrInterned) : Type 0 where
  pub set : (t : Reading) → Reads t now → with_members class.0 (first + i) (map (spelled t) (drop i names)) (plain t now) ≡ with_members class.0 first (map (spelled t) names) (plain t old)
  pub reads : (t : Reading) → Reads t now → Reads t old
  pub grows : Grows old now

pub membering-begins : (w : World) (class : PyTypeRef) (first : ℕ) (names : List PyStrInterned) → Grows w w → Membering w w class first 0 names
membering-begins w class first names g = record {
  set = λ t r. let e : first + 0 ≡ first = omega arith in ap (λ n. with_members class.0 n (map (spelled t) names) (plain t w)) e;
  reads = λ t r. r;
  grows = g;
}

pub membering-step : (old now new : World) (class : PyTypeRef) (first i n : ℕ) (names : List PyStrInterned) (d x : PyStrInterned) → Membering old now class first i names → i < length names → x ≡ get_or names i d → n ≡ first + i → ((t : Reading) → Reads t new → plain t new ≡ with_member class.0 n (spelled t x) (plain t now)) → ((t : Reading) → Reads t new → Reads t now) → Grows now new → Membering old new class first (suc i) names
membering-step old now new class first i n names d x h l e f s r g = record {
  set = λ t q.
      let k : first + suc i ≡ first + i + 1 = omega arith in
      let here : plain t new ≡ with_member class.0 (first + i) (spelled t (get_or names i d)) (plain t now) =
      s t q ∙ (λ j. with_member class.0 (f j) (spelled t (e j)) (plain t now)) in
      (λ j. with_members class.0 (k j) (map (spelled t) (drop (suc i) names)) (here j))
      ∙ ap (λ xs. with_members class.0 (first + i) (map (spelled t) xs) (plain t now)) (sym (drop-cons names i d l))
      ∙ h.set t (r t q);
  reads = λ t q. h.reads t (r t q);
  grows = grows-on old now new h.grows g;
}

pub membering-ends : (old now : World) (class : PyTypeRef) (first i : ℕ) (names : List PyStrInterned) → Membering old now class first i names → length names ≤ i → (t : Reading) → Reads t now → plain t now ≡ with_members class.0 first (map (spelled t) names) (plain t old)
membering-ends old now class first i names h l t r =
    sym (ap (λ xs. with_members class.0 (first + i) (map (spelled t) xs) (plain t now)) (drop-end names i l)) ∙ h.set t r
