-- The names of attributes, and the keys that are none of them.
use Rattle.proto_object.proofs.Below.{ℕ, zero, suc, Bool, true, false, cond, not, List, [], length, filter, drop, get_or, Option, Some, None, refl, sym, ap, ◌∙◌, arith, append_assoc, eqb, slice_get, is_some, bytes_eq-Decides, eq-eqb, eqb-true, PyObjectRef, PyStrInterned, Raised as Fault, Answer, End, is_same_name, value_of, Text, Payload, all_attributes, dict_of, is_text_datum, Datum, AText, PlainWorld, DoDir, Said, is_text, class_at, datum_at, Held, World, Reading, Reads, bindings, datum, plain, EndsAs, IsNode, AreNodes, AllHold, Holds, of_binding, of_each, more-nodes, keyed, or_no_attributes, attributes_for, dir_by, has_name, names_made, other_keys, own_keys, object_job_say, Begins, object_group, ends-follow, read-follows}
use Rattle.std.proofs.Common.{◌≡◌, ◌+◌, ◌<◌, ◌∷◌, ◌++◌}
use Rattle.std.specs.Prelude.{Result}
use Rattle.py_node.specs.declared.protocol.ObjectTask.TheVariants as object
use Rattle.py_node.specs.declared.payload.Payload.TheVariants as payload

abbrev pub Bound : Type 0
Bound = List (PyStrInterned × PyObjectRef)

one-truth : (a b : Bool) → (a ≡ true → b ≡ true) → (b ≡ true → a ≡ true) → a ≡ b
one-truth true b f g = sym (f refl)
one-truth false true f g = g refl
one-truth false false f g = refl

eqb-turned : (n m : ℕ) → eqb n m ≡ eqb m n
eqb-turned n m =
    one-truth (eqb n m) (eqb m n) (λ e. eq-eqb m n (sym (eqb-true n m e))) (λ e. eq-eqb n m (sym (eqb-true m n e)))

-- a key that is the text of a name
pub one-name : (t : Reading) (bs : Bound) (x : PyStrInterned) (text : Text) → t.text x.0 ≡ text → value_of (λ y. is_text text y) (bindings t bs) ≡ value_of (λ k. is_same_name k x) bs
one-name t [] x text e = refl
one-name t (b ∷ bs) x text e =
    let same : is_text text (t.text b.0.0) ≡ is_same_name b.0 x =
    ap (λ z. is_text z (t.text b.0.0)) (sym e) ∙ t.same x.0 b.0.0 ∙ eqb-turned x.0 b.0.0 in
    ap (λ q. cond q (Some b.1) (value_of (λ y. is_text text y) (bindings t bs))) same
    ∙ ap (cond (is_same_name b.0 x) (Some b.1)) (one-name t bs x text e)

-- what is not true is false
otherwise : (q : Bool) → (q ≡ true → ⊥) → q ≡ false
otherwise true h = absurd (h refl)
otherwise false h = refl

stands-at : (xs : List Text) (n : ℕ) → n < length xs → (y : Text) × (slice_get xs n ≡ Some y)
stands-at [] n l = absurd (omega arith)
stands-at (x ∷ xs) zero l = (x, refl)
stands-at (x ∷ xs) (suc n) l = stands-at xs n (omega arith)

-- a text that is the text of no name
pub no-name : (t : Reading) (w : World) (bs : Bound) (text : Text) → Reads t w → ((n : ℕ) → slice_get w.names n ≡ Some text → ⊥) → AllHold w (of_each of_binding bs) → value_of (λ y. is_text text y) (bindings t bs) ≡ None
unfolding Holds
no-name t w [] text r none h = refl
no-name t w (b ∷ bs) text r none h =
    let at = stands-at w.names b.0.0 h.0 in
    let test = bytes_eq-Decides text (t.text b.0.0) in
    let other : is_text text (t.text b.0.0) ≡ false =
    otherwise _ (λ e. none b.0.0 (at.1 ∙ ap Some (sym (r.names b.0.0 at.0 at.1) ∙ sym (test.0 e)))) in
    ap (λ q. cond q (Some b.1) (value_of (λ y. is_text text y) (bindings t bs))) other ∙ no-name t w bs text r none h.1.1

-- one more item of a list, of which those are kept that pass a test
module _ {A : Type 0} (p : A → Bool) where
  pub keeps : (ys : List A) (x : A) (xs : List A) → p x ≡ true → (ys ++ x ∷ []) ++ filter p xs ≡ ys ++ filter p (x ∷ xs)
  keeps ys x xs e =
      append_assoc ys (x ∷ []) (filter p xs) ∙ ap (λ b. ys ++ cond b (x ∷ filter p xs) (filter p xs)) (sym e)

  pub skips : (ys : List A) (x : A) (xs : List A) → p x ≡ false → ys ++ filter p xs ≡ ys ++ filter p (x ∷ xs)
  skips ys x xs e = ap (λ b. ys ++ cond b (x ∷ filter p xs) (filter p xs)) (sym e)

-- what is no text is no name
not-text : (t : Reading) (p : Payload) → ((x : _) → p ≡ payload.Text x → ⊥) → (y : Text) → is_text_datum y (Some (datum t p)) ≡ false
not-text t payload.Object h y = refl
not-text t (payload.Class c) h y = refl
not-text t (payload.Number z) h y = refl
not-text t (payload.Text s) h y = absurd (h s refl)
not-text t (payload.Tuple rs) h y = refl
not-text t (payload.List rs) h y = refl
not-text t (payload.Dict es) h y = refl
not-text t (payload.Function f) h y = refl
not-text t (payload.Method m) h y = refl
not-text t (payload.NativeFunction f) h y = refl
not-text t (payload.BuiltinMethod m) h y = refl
not-text t (payload.MethodDescriptor m) h y = refl
not-text t (payload.GetSet g) h y = refl
not-text t (payload.ClassMethod r) h y = refl
not-text t (payload.StaticMethod r) h y = refl
not-text t (payload.Member m) h y = refl
not-text t (payload.Property p) h y = refl
not-text t (payload.Super s) h y = refl
not-text t (payload.Iterator i) h y = refl
not-text t (payload.Slice s) h y = refl

under-none : (d : Option Datum) (bs : List (Text × PyObjectRef)) → ((y : Text) → is_text_datum y d ≡ false) → is_some (value_of (λ y. is_text_datum y d) bs) ≡ false
under-none d [] h = refl
under-none d (b ∷ bs) h =
    ap (λ q. is_some (cond q (Some b.1) (value_of (λ y. is_text_datum y d) bs))) (h b.0) ∙ under-none d bs h

pub other-no-name : (t : Reading) (u : PlainWorld) (bs : List (Text × PyObjectRef)) (key : PyObjectRef) (p : Payload) → datum_at u key ≡ Some (datum t p) → ((x : _) → p ≡ payload.Text x → ⊥) → has_name u bs key ≡ false
other-no-name t u bs key p e h =
    ap (λ d. is_some (value_of (λ y. is_text_datum y d) bs)) e ∙ under-none (Some (datum t p)) bs (not-text t p h)

-- a key that holds a text is named as the text is
pub text-named : (u : PlainWorld) (bs : List (Text × PyObjectRef)) (key : PyObjectRef) (text : Text) → datum_at u key ≡ Some (AText text) → has_name u bs key ≡ is_some (value_of (λ y. is_text text y) bs)
text-named u bs key text e = ap (λ d. is_some (value_of (λ y. is_text_datum y d) bs)) e

-- the first of some items that are left
drop-at : {A : Type 0} (xs : List A) (i : ℕ) (d : A) → i < length xs → drop i xs ≡ get_or xs i d ∷ drop (i + 1) xs
drop-at [] i d l = absurd (omega arith)
drop-at (x ∷ xs) zero d l = refl
drop-at (x ∷ xs) (suc i) d l =
    let next : i + 1 ≡ suc i = omega arith in
    let later : suc i + 1 ≡ suc (suc i) = omega arith in
    drop-at xs i d (omega arith)
    ∙ ap (λ n. get_or xs i d ∷ drop n xs) next
    ∙ ap (λ n. get_or xs i d ∷ drop n (x ∷ xs)) (sym later)

pub node-at : (w : Held) (rs : List PyObjectRef) (i : ℕ) (d : PyObjectRef) → Holds w (AreNodes rs) → i < length rs → Holds w (IsNode (get_or rs i d))
unfolding Holds
node-at w rs i d h l = h i d l

-- the keys that are none of the names, as far as a place
abbrev pub AreOthers : World → Bound → List PyObjectRef → List PyObjectRef → ℕ → Type 0
AreOthers w attrs keys others i =
    Holds w (AreNodes others)
    × ((t : Reading) → Reads t w → others ++ filter (λ k. not (has_name (plain t w) (bindings t attrs) k)) (drop i keys) ≡ other_keys (plain t w) (bindings t attrs) keys)

module _ (w : World) (attrs : Bound) (keys others : List PyObjectRef) (i : ℕ) (d : PyObjectRef) (b : Bool) (below : i < length keys) (sofar : AreOthers w attrs keys others i) (named : (t : Reading) → Reads t w → has_name (plain t w) (bindings t attrs) (get_or keys i d) ≡ b) where
  pub others-more : Holds w (AreNodes keys) → not b ≡ true → AreOthers w attrs keys (others ++ get_or keys i d ∷ []) (i + 1)
  others-more h q = (
    more-nodes w others (get_or keys i d) sofar.0 (node-at w keys i d h below),
    λ t r.
        let p : PyObjectRef → Bool = λ k. not (has_name (plain t w) (bindings t attrs) k) in
        keeps p others (get_or keys i d) (drop (i + 1) keys) (ap not (named t r) ∙ q)
        ∙ ap (λ l. others ++ filter p l) (sym (drop-at keys i d below))
        ∙ sofar.1 t r,
  )

  pub others-same : not b ≡ false → AreOthers w attrs keys others (i + 1)
  others-same q = (
    sofar.0,
    λ t r.
        let p : PyObjectRef → Bool = λ k. not (has_name (plain t w) (bindings t attrs) k) in
        skips p others (get_or keys i d) (drop (i + 1) keys) (ap not (named t r) ∙ q)
        ∙ ap (λ l. others ++ filter p l) (sym (drop-at keys i d below))
        ∙ sofar.1 t r,
  )

-- the row of an object's names ends so
pub dir-ends : (old new : World) (o : PyObjectRef) (said : Reading → PlainWorld → Said) (r : Result Answer Fault) → ((t : Reading) → Reads t old → object_job_say (plain t old) (DoDir o) [] ≡ said t (plain t old)) → EndsAs said old new r → Begins (object.Dir o) old new (End r)
dir-ends old new o said r same h =
    let row = λ (t : Reading). object_group.row t (object.Dir o) in
    read-follows object_group row (λ t u. row t u []) old new said (End r) same (ends-follow object_group row said old new r h)

pub dir-said : (u : PlainWorld) (o : PyObjectRef) (c : ℕ) (attrs : List (Text × PyObjectRef)) (keys others : List PyObjectRef) → class_at u o ≡ Some c → all_attributes is_text u.classes c ≡ Some attrs → own_keys u (dict_of u o) ≡ keys → other_keys u attrs keys ≡ others → object_job_say u (DoDir o) [] ≡ names_made others (keyed u [] attrs)
unfolding object_job_say
dir-said u o c attrs keys others class all own other =
    (λ i. dir_by u (attributes_for u (class i)) (own i))
    ∙ (λ i. dir_by u (or_no_attributes (all i)) keys)
    ∙ ap (λ rs. names_made rs (keyed u [] attrs)) other
