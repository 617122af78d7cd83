-- Classes that are spelled, one after the other.
use Rattle.order_check.proofs.Below.{ℕ, Bool, true, false, List, [], length, get_or, drop, map, Option, Some, None, refl, ap, sym, ◌∙◌, add-one, suc, option_and_then, drop-cons, drop_all, map-append, Data, Items, no_items, item, as_str, view, items_view, Value, Text, of_two, texts_in, onto, onto-found, Entry, Named, PlainClass, and_after, class_after, classes_after, first_class, key_of, keyed, named, named_of, or_first, plain_class, with_first, base_key, base_keys}
use Rattle.std.proofs.Common.{◌≡◌, codes, ◌+◌, ◌<◌, ◌≤◌, if◌then◌else◌, ◌∷◌, ◌++◌, option_map, is_some, string_bytes}
use Rattle.std.proofs.lemmas.List.{append-nil}
use Rattle.order_check.specs.HierarchyText.Spelled.{keys_of}
use Rattle.order_check.specs.HierarchyText.Items.{class_at}

-- the bases of a class

none-second : {A B C : Type 0} (f : A → B → C) (a : Option A) → of_two f a None ≡ None
none-second f (Some a) = refl
none-second f None = refl

module _ (names : List Text) where
  one-more : (t : Option Text) (ts : Option (List Text)) → of_two ◌∷◌ (option_and_then (key_of names) t) (option_and_then (keys_of names) ts) ≡ option_and_then (keys_of names) (of_two ◌∷◌ t ts)
  one-more None ts = refl
  one-more (Some t) None = none-second ◌∷◌ (key_of names t)
  one-more (Some t) (Some ts) = refl

  -- names that are read and looked up one by one
  base_keys-is : (ds : Items) → base_keys names ds ≡ option_and_then (keys_of names) (texts_in ds)
  base_keys-is no_items = refl
  base_keys-is (item d ds) = ap (of_two ◌∷◌ (base_key names d)) (base_keys-is ds) ∙ one-more (as_str d) (texts_in ds)

-- a class

-- a class with a name and the keys of its bases, where it is given that the name is not new
abbrev class_with : List Text → Text → Bool → Option (List ℕ) → Option PlainClass
class_with names n is_old keys = if is_old then None else option_map (keyed names n) keys

without-bases : (names : List Text) (n : Text) (b : Bool) → class_with names n b None ≡ None
without-bases names n true = refl
without-bases names n false = refl

-- a class with its bases
abbrev with_bases : ℕ → Text → List ℕ → PlainClass
with_bases k n bs = record { key = k; name = n; bases = bs }

with-first : (names : List Text) (n : Text) (o : Option (List ℕ)) → option_map (keyed names n) o ≡ option_map (with_bases (length names) n) (option_map or_first o)
with-first names n None = refl
with-first names n (Some ks) = refl

module _ (names : List Text) (d : Data) (n : Text) (ds : Items) (spelled : named_of d ≡ option_map (named n) (texts_in ds)) where
  class_at-is : class_at names d ≡ class_with names n (is_some (key_of names n)) (base_keys names ds)
  class_at-is = ap (option_and_then (class_after names)) spelled ∙ by (texts_in ds) ∙ ap (class_with names n (is_some (key_of names n))) (sym (base_keys-is names ds))
    where
      by : (ts : Option (List Text)) → option_and_then (class_after names) (option_map (named n) ts) ≡ class_with names n (is_some (key_of names n)) (option_and_then (keys_of names) ts)
      by None = sym (without-bases names n (is_some (key_of names n)))
      by (Some ts) = refl

  -- a name that stands already
  pub class-old : is_some (key_of names n) ≡ true → class_at names d ≡ None
  class-old old = class_at-is ∙ ap (λ b. class_with names n b (base_keys names ds)) old

  -- a base that is no earlier class
  pub class-without : base_keys names ds ≡ None → class_at names d ≡ None
  class-without none = class_at-is ∙ ap (class_with names n (is_some (key_of names n))) none ∙ without-bases names n (is_some (key_of names n))

  -- a new name, and bases
  pub class-new : (k : ℕ) (s : Text) (bs : List ℕ) → k ≡ length names → s ≡ n → key_of names n ≡ None → option_map or_first (base_keys names ds) ≡ Some bs
      → class_at names d ≡ Some (record { key = k; name = s; bases = bs })
  class-new k s bs place same new keys =
      class_at-is ∙ ap (λ o. class_with names n (is_some o) (base_keys names ds)) new ∙ with-first names n (base_keys names ds) ∙ ap (option_map (with_bases (length names) n)) keys
      ∙ ap (λ w. Some (with_bases w n bs)) (sym place) ∙ ap (λ w. Some (with_bases k w bs)) (sym same)

-- the classes after some names

named-same : (names : List Text) (p : Named) (c : PlainClass) → class_after names p ≡ Some c → c.name ≡ p.0
named-same names p c h = by (is_some (key_of names p.0)) (keys_of names p.1) h
  where
    by : (b : Bool) (ks : Option (List ℕ)) → class_with names p.0 b ks ≡ Some c → c.name ≡ p.0
    by true ks e = cc
    by false None e = cc
    by false (Some ks) e = let same : keyed names p.0 ks ≡ c = cc in sym (ap (λ (w : PlainClass). w.name) same)

pub one-class : (names : List Text) (d : Data) (ds : Items) (c : PlainClass) → class_at names d ≡ Some c → classes_after names (item d ds) ≡ of_two ◌∷◌ (Some c) (classes_after (names ++ c.name ∷ []) ds)
unfolding classes_after
one-class names d ds c h = by (named_of d) h
  where
    by : (p : Option Named) → option_and_then (class_after names) p ≡ Some c → and_after names p (λ more. classes_after more ds) ≡ of_two ◌∷◌ (Some c) (classes_after (names ++ c.name ∷ []) ds)
    by None e = cc
    by (Some p) e =
        ap (λ o. of_two ◌∷◌ o (classes_after (names ++ p.0 ∷ []) ds)) e
        ∙ ap (λ n. of_two ◌∷◌ (Some c) (classes_after (names ++ n ∷ []) ds)) (sym (named-same names p c e))

pub no-class : (names : List Text) (d : Data) (ds : Items) → class_at names d ≡ None → classes_after names (item d ds) ≡ None
unfolding classes_after
no-class names d ds h = by (named_of d) h
  where
    by : (p : Option Named) → option_and_then (class_after names) p ≡ None → and_after names p (λ more. classes_after more ds) ≡ None
    by None e = refl
    by (Some p) e = ap (λ o. of_two ◌∷◌ o (classes_after (names ++ p.0 ∷ []) ds)) e

-- one turn of the loop over the items
pub next-class : (names more : List Text) (vs : List Value) (i : ℕ) (v : Value) (found : List Entry) (e : Entry) (o : Option (List PlainClass)) → i < length vs → v ≡ get_or vs i v
    → class_at names (view v) ≡ Some (plain_class e) → more ≡ names ++ string_bytes e.name ∷ []
    → o ≡ onto (map plain_class found) (classes_after names (items_view (drop i vs))) → o ≡ onto (map plain_class (found ++ e ∷ [])) (classes_after more (items_view (drop (i + 1) vs)))
next-class names more vs i v found e o h is reads grown before =
    let rest = drop (i + 1) vs in
    let first : drop i vs ≡ v ∷ rest = rw (add-one, drop-cons vs i v h) (ap (λ w. w ∷ drop (suc i) vs) (sym is)) in
    before ∙ ap (λ ws. onto (map plain_class found) (classes_after names (items_view ws))) first
    ∙ ap (onto (map plain_class found)) (one-class names (view v) (items_view rest) (plain_class e) reads)
    ∙ ap (λ ns. onto (map plain_class found) (of_two ◌∷◌ (Some (plain_class e)) (classes_after ns (items_view rest)))) (sym grown)
    ∙ onto-found (map plain_class found) (plain_class e) (classes_after more (items_view rest)) ∙ ap (λ xs. onto xs (classes_after more (items_view rest))) (sym (map-append plain_class found (e ∷ [])))

-- an item that spells no class ends it
pub last-class : (names : List Text) (vs : List Value) (i : ℕ) (v : Value) (found : List PlainClass) (o : Option (List PlainClass)) → i < length vs → v ≡ get_or vs i v
    → class_at names (view v) ≡ None → o ≡ onto found (classes_after names (items_view (drop i vs))) → o ≡ None
last-class names vs i v found o h is none before =
    let rest = drop (i + 1) vs in
    let first : drop i vs ≡ v ∷ rest = rw (add-one, drop-cons vs i v h) (ap (λ w. w ∷ drop (suc i) vs) (sym is)) in
    before ∙ ap (λ ws. onto found (classes_after names (items_view ws))) first ∙ ap (onto found) (no-class names (view v) (items_view rest) none)

-- and no more items, so that what was found is all
pub all-classes : (names : List Text) (vs : List Value) (i : ℕ) (found : List PlainClass) (o : Option (List PlainClass)) → length vs ≤ i
    → o ≡ onto found (classes_after names (items_view (drop i vs))) → o ≡ Some found
unfolding classes_after
all-classes names vs i found o past before = before ∙ ap (λ ws. onto found (classes_after names (items_view ws))) (drop_all i vs past) ∙ ap Some (append-nil found)

-- what begins with the first class is there where the rest is
pub none-after : (o : Option (List PlainClass)) → option_map with_first o ≡ None → o ≡ None
none-after None h = refl
none-after (Some cs) h = cc

-- nothing is read yet
first-only : (o : Option (List PlainClass)) → option_map with_first o ≡ onto (first_class ∷ []) o
first-only None = refl
first-only (Some cs) = refl

pub before-first : (names : List Text) (vs : List Value) (found : List Entry) → names ≡ codes "object" ∷ [] → map plain_class found ≡ first_class ∷ []
    → option_map with_first (classes_after (codes "object" ∷ []) (items_view vs)) ≡ onto (map plain_class found) (classes_after names (items_view (drop 0 vs)))
before-first names vs found alone first =
    first-only (classes_after (codes "object" ∷ []) (items_view vs)) ∙ ap (λ cs. onto cs (classes_after (codes "object" ∷ []) (items_view vs))) (sym first)
    ∙ ap (λ ns. onto (map plain_class found) (classes_after ns (items_view vs))) (sym alone)
