-- What is found along some classes.
use Rattle.class_table.proofs.Below.{ℕ, zero, suc, inl, inr, not, Bool, true, false, cond, List, [], length, get_or, drop, map, Option, Some, None, refl, sym, ap, ◌∙◌, arith, option_and_then, drop_more, drop_of_length-le, PyObjectRef, PyStrInterned, PyTypeRef, SlotId, Hash, SlotEntry, Unhashable, Wrapper, value_of, is_same_name, Known, is_slot, names_of, sort_of, Includes, Class, Classes, class_at, is_heap, lin, own_of, or_else, first_along, along, is_one_of, is_name_of, wrapped, heap_entry, is_heap_at, given_entry, is_by_itself, entry, natives_of, numbers, table_keys, StoredClass, classes_of}
use Rattle.std.proofs.Common.{◌≡◌, ◌+◌, ◌<◌, ◌≤◌, ◌||◌, ◌&&◌, ◌∷◌}
use Rattle.py_node.specs.declared.known.Known.TheVariants as known
use Rattle.class_model.specs.Slot.{is_none}
use Rattle.class_table.proofs.Slots.{names-hash}

pub wrapped_or_else : (s : SlotId) (a b : Option PyObjectRef) → wrapped s (or_else a b) ≡ or_else (wrapped s a) (wrapped s b)
wrapped_or_else s None b = refl
wrapped_or_else s (Some v) b = refl

first-step : (ns : List PyStrInterned) (n : PyStrInterned) (a : PyStrInterned × PyObjectRef) (attrs : List (PyStrInterned × PyObjectRef)) (b : Bool) → is_same_name a.0 n ≡ b → (value_of (λ k. is_same_name k n) attrs ≡ None → value_of (is_one_of is_same_name (n ∷ ns)) attrs ≡ value_of (is_one_of is_same_name ns) attrs) → value_of (λ k. is_same_name k n) (a ∷ attrs) ≡ None → value_of (is_one_of is_same_name (n ∷ ns)) (a ∷ attrs) ≡ value_of (is_one_of is_same_name ns) (a ∷ attrs)
first-step ns n a attrs true h go e = let z : Some a.1 ≡ None = ap (λ b. cond b (Some a.1) (value_of (λ k. is_same_name k n) attrs)) (sym h) ∙ e in cc
first-step ns n a attrs false h go e =
    let r : value_of (λ k. is_same_name k n) attrs ≡ None = ap (λ b. cond b (Some a.1) (value_of (λ k. is_same_name k n) attrs)) (sym h) ∙ e in
    ap (λ b. cond (b || is_one_of is_same_name ns a.0) (Some a.1) (value_of (is_one_of is_same_name (n ∷ ns)) attrs)) h
    ∙ ap (λ v. cond (is_one_of is_same_name ns a.0) (Some a.1) v) (go r)

pub value_of-first : (ns : List PyStrInterned) (n : PyStrInterned) (attrs : List (PyStrInterned × PyObjectRef)) → value_of (λ k. is_same_name k n) attrs ≡ None → value_of (is_one_of is_same_name (n ∷ ns)) attrs ≡ value_of (is_one_of is_same_name ns) attrs
value_of-first ns n [] e = refl
value_of-first ns n (a ∷ attrs) e = first-step ns n a attrs (is_same_name a.0 n) refl (value_of-first ns n attrs) e

pub value_of-no : (attrs : List (PyStrInterned × PyObjectRef)) → value_of (is_one_of is_same_name []) attrs ≡ None
value_of-no [] = refl
value_of-no (a ∷ attrs) = value_of-no attrs

or_false : (b : Bool) → (b || false) ≡ b
or_false true = refl
or_false false = refl

pub value_of-only : (n : PyStrInterned) (attrs : List (PyStrInterned × PyObjectRef)) → value_of (is_one_of is_same_name (n ∷ [])) attrs ≡ value_of (λ k. is_same_name k n) attrs
value_of-only n [] = refl
value_of-only n (a ∷ attrs) =
    ap (λ b. cond b (Some a.1) (value_of (is_one_of is_same_name (n ∷ [])) attrs)) (or_false (is_same_name a.0 n))
    ∙ ap (λ v. cond (is_same_name a.0 n) (Some a.1) v) (value_of-only n attrs)

found-step : (ns : List PyStrInterned) (n : PyStrInterned) (v : PyObjectRef) (a : PyStrInterned × PyObjectRef) (attrs : List (PyStrInterned × PyObjectRef)) (b c : Bool) → is_same_name a.0 n ≡ b → is_one_of is_same_name ns a.0 ≡ c → (value_of (λ k. is_same_name k n) attrs ≡ Some v → (w : PyObjectRef) × (value_of (is_one_of is_same_name (n ∷ ns)) attrs ≡ Some w)) → value_of (λ k. is_same_name k n) (a ∷ attrs) ≡ Some v → (w : PyObjectRef) × (value_of (is_one_of is_same_name (n ∷ ns)) (a ∷ attrs) ≡ Some w)
found-step ns n v a attrs true c h i go e =
    (a.1, ap (λ b. cond (b || is_one_of is_same_name ns a.0) (Some a.1) (value_of (is_one_of is_same_name (n ∷ ns)) attrs)) h)
found-step ns n v a attrs false true h i go e =
    (a.1, ap (λ b. cond (b || is_one_of is_same_name ns a.0) (Some a.1) (value_of (is_one_of is_same_name (n ∷ ns)) attrs)) h ∙ ap (λ b. cond b (Some a.1) (value_of (is_one_of is_same_name (n ∷ ns)) attrs)) i)
found-step ns n v a attrs false false h i go e =
    let r = go (ap (λ b. cond b (Some a.1) (value_of (λ k. is_same_name k n) attrs)) (sym h) ∙ e) in
    (r.0, ap (λ b. cond (b || is_one_of is_same_name ns a.0) (Some a.1) (value_of (is_one_of is_same_name (n ∷ ns)) attrs)) h ∙ ap (λ b. cond b (Some a.1) (value_of (is_one_of is_same_name (n ∷ ns)) attrs)) i ∙ r.1)

pub value_of-found : (ns : List PyStrInterned) (n : PyStrInterned) (v : PyObjectRef) (attrs : List (PyStrInterned × PyObjectRef)) → value_of (λ k. is_same_name k n) attrs ≡ Some v → (w : PyObjectRef) × (value_of (is_one_of is_same_name (n ∷ ns)) attrs ≡ Some w)
value_of-found ns n v [] e = cc
value_of-found ns n v (a ∷ attrs) e = found-step ns n v a attrs (is_same_name a.0 n) (is_one_of is_same_name ns a.0) refl refl (value_of-found ns n v attrs) e

-- any value gives the same wrapper, unless the slot is the hash
pub wrapped-alike : (s : SlotId) (v w : PyObjectRef) → is_slot s Hash ≡ false → wrapped s (Some v) ≡ wrapped s (Some w)
wrapped-alike s v w e = ap (λ b. Some (cond (b && is_none v) Unhashable (Wrapper s))) e ∙ ap (λ b. Some (cond (b && is_none w) Unhashable (Wrapper s))) (sym e)

pub wrapped-end : (s : SlotId) (ks : List Known) (i : ℕ) (attrs : List (PyStrInterned × PyObjectRef)) → length ks ≤ i → wrapped s (value_of (is_one_of is_same_name (map table_keys.special (drop i ks))) attrs) ≡ None
wrapped-end s ks i attrs l = ap (λ (ys : List Known). wrapped s (value_of (is_one_of is_same_name (map table_keys.special ys)) attrs)) (drop_of_length-le ks l) ∙ ap (wrapped s) (value_of-no attrs)

found-case : (s : SlotId) (ks : List Known) (i : ℕ) (k d : Known) (attrs : List (PyStrInterned × PyObjectRef)) (v : PyObjectRef) → ks ≡ names_of s → i < length ks → k ≡ get_or ks i d → value_of (λ j. is_same_name j (table_keys.special k)) attrs ≡ Some v → (b : Bool) → is_slot s Hash ≡ b → wrapped s (value_of (is_one_of is_same_name (map table_keys.special (k ∷ drop (i + 1) ks))) attrs) ≡ wrapped s (Some v)
found-case s ks i k d attrs v e l at is true h =
    let one : ks ≡ known.Hash ∷ [] = e ∙ names-hash s h in
    let rest : drop (i + 1) ks ≡ [] = let n : length ks ≡ 1 = ap length one in drop_of_length-le ks {i = i + 1} (omega arith) in
    ap (λ (ys : List Known). wrapped s (value_of (is_one_of is_same_name (map table_keys.special (k ∷ ys))) attrs)) rest
    ∙ ap (wrapped s) (value_of-only (table_keys.special k) attrs ∙ is)
found-case s ks i k d attrs v e l at is false h =
    let r = value_of-found (map table_keys.special (drop (i + 1) ks)) (table_keys.special k) v attrs is in
    ap (wrapped s) r.1 ∙ wrapped-alike s r.0 v h

-- a name that is there gives the slot
pub wrapped-found : (s : SlotId) (ks : List Known) (i : ℕ) (k d : Known) (attrs : List (PyStrInterned × PyObjectRef)) (v : PyObjectRef) → ks ≡ names_of s → i < length ks → k ≡ get_or ks i d → value_of (λ j. is_same_name j (table_keys.special k)) attrs ≡ Some v → wrapped s (value_of (is_one_of is_same_name (map table_keys.special (drop i ks))) attrs) ≡ wrapped s (Some v)
wrapped-found s ks i k d attrs v e l at is =
    ap (λ (ys : List Known). wrapped s (value_of (is_one_of is_same_name (map table_keys.special ys)) attrs)) (drop_more ks i d l ∙ ap (λ n. n ∷ drop (i + 1) ks) (sym at))
    ∙ found-case s ks i k d attrs v e l at is (is_slot s Hash) refl

-- a name that is not there may be left out
pub wrapped-first : (s : SlotId) (ks : List Known) (k : Known) (attrs : List (PyStrInterned × PyObjectRef)) → value_of (λ j. is_same_name j (table_keys.special k)) attrs ≡ None → wrapped s (value_of (is_one_of is_same_name (map table_keys.special (k ∷ ks))) attrs) ≡ wrapped s (value_of (is_one_of is_same_name (map table_keys.special ks)) attrs)
wrapped-first s ks k attrs e = ap (wrapped s) (value_of-first (map table_keys.special ks) (table_keys.special k) attrs e)

pub wrapped-next : (s : SlotId) (ks : List Known) (i : ℕ) (k d : Known) (attrs : List (PyStrInterned × PyObjectRef)) → i < length ks → k ≡ get_or ks i d → value_of (λ j. is_same_name j (table_keys.special k)) attrs ≡ None → wrapped s (value_of (is_one_of is_same_name (map table_keys.special (drop (i + 1) ks))) attrs) ≡ wrapped s (value_of (is_one_of is_same_name (map table_keys.special (drop i ks))) attrs)
wrapped-next s ks i k d attrs l at is =
    sym (
    ap (λ (ys : List Known). wrapped s (value_of (is_one_of is_same_name (map table_keys.special ys)) attrs)) (drop_more ks i d l ∙ ap (λ n. n ∷ drop (i + 1) ks) (sym at))
    ∙ wrapped-first s (drop (i + 1) ks) k attrs is
    )

pub first_along-at : {V : Type 0} (f : ℕ → Option V) (line : List PyTypeRef) (i : ℕ) (d : PyTypeRef) → i < length line → first_along f (numbers (drop i line)) ≡ or_else (f (get_or line i d).0) (first_along f (numbers (drop (i + 1) line)))
first_along-at f line i d l = ap (λ (ys : List PyTypeRef). first_along f (numbers ys)) (drop_more line i d l)

module _ (t : Classes PyStrInterned) (c : ℕ) (k : Class PyStrInterned) (line : List ℕ) (there : class_at t c ≡ Some k) (is : lin t c ≡ Some line) (s : SlotId) where
  pub entry-inherited : (not (is_heap k) && is_by_itself (sort_of s)) ≡ true → entry table_keys natives_of t c s ≡ first_along (given_entry table_keys natives_of t s) line
  entry-inherited e =
      ap (λ (o : Option (Class PyStrInterned)). cond (not (is_heap_at o) && is_by_itself (sort_of s)) (option_and_then (first_along (given_entry table_keys natives_of t s)) (lin t c)) (given_entry table_keys natives_of t s c)) there
      ∙ ap (λ b. cond b (option_and_then (first_along (given_entry table_keys natives_of t s)) (lin t c)) (given_entry table_keys natives_of t s c)) e
      ∙ ap (option_and_then (first_along (given_entry table_keys natives_of t s))) is

  pub entry-given : (not (is_heap k) && is_by_itself (sort_of s)) ≡ false → entry table_keys natives_of t c s ≡ given_entry table_keys natives_of t s c
  entry-given e =
      ap (λ (o : Option (Class PyStrInterned)). cond (not (is_heap_at o) && is_by_itself (sort_of s)) (option_and_then (first_along (given_entry table_keys natives_of t s)) (lin t c)) (given_entry table_keys natives_of t s c)) there
      ∙ ap (λ b. cond b (option_and_then (first_along (given_entry table_keys natives_of t s)) (lin t c)) (given_entry table_keys natives_of t s c)) e

  pub given-heap : is_heap k ≡ true → given_entry table_keys natives_of t s c ≡ heap_entry table_keys t c line s
  given-heap e =
      ap (λ (o : Option (Class PyStrInterned)). cond (is_heap_at o) (option_and_then (λ line. heap_entry table_keys t c line s) (lin t c)) (natives_of c s)) there
      ∙ ap (λ b. cond b (option_and_then (λ line. heap_entry table_keys t c line s) (lin t c)) (natives_of c s)) e
      ∙ ap (option_and_then (λ line. heap_entry table_keys t c line s)) is

pub given-native : (t : Classes PyStrInterned) (c : ℕ) (s : SlotId) → is_heap_at (class_at t c) ≡ false → given_entry table_keys natives_of t s c ≡ natives_of c s
given-native t c s e = ap (λ b. cond b (option_and_then (λ line. heap_entry table_keys t c line s) (lin t c)) (natives_of c s)) e

pub wrapped-along-found : (s : SlotId) (kept : List StoredClass) (line : List PyTypeRef) (i : ℕ) (d : PyTypeRef) (e : SlotEntry) → i < length line → Some e ≡ wrapped s (own_of (is_name_of table_keys s) (class_at (classes_of kept) (get_or line i d).0)) → wrapped s (along (is_name_of table_keys s) (classes_of kept) (numbers (drop i line))) ≡ Some e
wrapped-along-found s kept line i d e l is =
    ap (wrapped s) (first_along-at (λ c. own_of (is_name_of table_keys s) (class_at (classes_of kept) c)) line i d l)
    ∙ wrapped_or_else s (own_of (is_name_of table_keys s) (class_at (classes_of kept) (get_or line i d).0)) (along (is_name_of table_keys s) (classes_of kept) (numbers (drop (i + 1) line)))
    ∙ ap (λ o. or_else o (wrapped s (along (is_name_of table_keys s) (classes_of kept) (numbers (drop (i + 1) line))))) (sym is)

pub held-at : (line : List PyTypeRef) (i : ℕ) (d : PyTypeRef) → i < length line → Includes (numbers line) (get_or line i d).0
held-at [] i d l = absurd (omega arith)
held-at (c ∷ line) zero d l = inl refl
held-at (c ∷ line) (suc i) d l = inr (held-at line i d (omega arith))

-- a class that gives the slot nothing may be left out
pub wrapped-along-next : (s : SlotId) (kept : List StoredClass) (line : List PyTypeRef) (i : ℕ) (d : PyTypeRef) → i < length line → wrapped s (own_of (is_name_of table_keys s) (class_at (classes_of kept) (get_or line i d).0)) ≡ None → wrapped s (along (is_name_of table_keys s) (classes_of kept) (numbers (drop (i + 1) line))) ≡ wrapped s (along (is_name_of table_keys s) (classes_of kept) (numbers (drop i line)))
wrapped-along-next s kept line i d l is =
    let rest = along (is_name_of table_keys s) (classes_of kept) (numbers (drop (i + 1) line)) in
    sym (
    ap (wrapped s) (first_along-at (λ c. own_of (is_name_of table_keys s) (class_at (classes_of kept) c)) line i d l)
    ∙ wrapped_or_else s (own_of (is_name_of table_keys s) (class_at (classes_of kept) (get_or line i d).0)) rest
    ∙ ap (λ o. or_else o (wrapped s rest)) is
    )
