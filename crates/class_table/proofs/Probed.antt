-- What the special names find along a linearisation is what stands in the slots.
use denote.Enum.Bare.{same_true}
use Rattle.class_table.proofs.Below.{the_type, ℕ, zero, suc, Bool, true, false, cond, not, eqb, ltb, map, List, [], length, get_or, drop, Option, Some, None, refl, sym, ap, ◌∙◌, add-zero, arith, slice_index_or, option_and_then, eqb-true, eq-eqb, ltb-true, false≢true, drop_more, slice_get-get_or, drop_of_length-le, PyObjectRef, PyStrInterned, SlotId, Hash, New, SlotEntry, Known, is_same_name, number_of, is_slot, slot_names, place_of, names_of, Class, Classes, class_at, own_of, or_else, along, is_one_of, is_name_of, wrapped, heap_entry, table_keys, Includes, lin-held, StoredClass, classes_of, HasLines, is_called, value_found, value_at, slot_by, AreFound}
use Rattle.std.proofs.Common.{◌≡◌, ◌+◌, ◌<◌, ◌≤◌, ◌&&◌, ◌||◌, ◌∷◌}
use Rattle.py_node.specs.declared.known.Known.TheVariants as known
use Rattle.class_table.proofs.Along.{value_of-first, value_of-found, value_of-only, value_of-no, wrapped-alike}
use Rattle.class_table.proofs.Slots.{below_all, names-below, names-hash}

-- a key that is one of some names
abbrev named : List Known → PyStrInterned → Bool
named ks = is_one_of is_same_name (map table_keys.special ks)

abbrev called : Known → PyStrInterned → Bool
called k j = is_same_name j (table_keys.special k)

module _ (t : Classes PyStrInterned) where
  own-none : (k : Known) (ks : List Known) (o : Option (Class PyStrInterned)) → own_of (called k) o ≡ None → own_of (named (k ∷ ks)) o ≡ own_of (named ks) o
  own-none k ks None e = refl
  own-none k ks (Some c) e = value_of-first (map table_keys.special ks) (table_keys.special k) c.attrs e

  own-found : (k : Known) (ks : List Known) (o : Option (Class PyStrInterned)) (v : PyObjectRef) → own_of (called k) o ≡ Some v → (w : PyObjectRef) × (own_of (named (k ∷ ks)) o ≡ Some w)
  own-found k ks None v e = cc
  own-found k ks (Some c) v e = value_of-found (map table_keys.special ks) (table_keys.special k) v c.attrs e

  along-none : (k : Known) (ks : List Known) (line : List ℕ) → along (called k) t line ≡ None → along (named (k ∷ ks)) t line ≡ along (named ks) t line
  along-none k ks [] e = refl
  along-none k ks (c ∷ cs) e = go (own_of (called k) (class_at t c)) refl e (along-none k ks cs)
    where
      go : (o : Option PyObjectRef) → own_of (called k) (class_at t c) ≡ o → or_else o (along (called k) t cs) ≡ None → (along (called k) t cs ≡ None → along (named (k ∷ ks)) t cs ≡ along (named ks) t cs) → or_else (own_of (named (k ∷ ks)) (class_at t c)) (along (named (k ∷ ks)) t cs) ≡ or_else (own_of (named ks) (class_at t c)) (along (named ks) t cs)
      go None h e r = ap (λ o. or_else o (along (named (k ∷ ks)) t cs)) (own-none k ks (class_at t c) h) ∙ ap (or_else (own_of (named ks) (class_at t c))) (r e)
      go (Some v) h e r = cc

  first-found : (k : Known) (ks : List Known) (cs : List ℕ) (o : Option PyObjectRef) → ((w : PyObjectRef) × (along (named (k ∷ ks)) t cs ≡ Some w)) → (w : PyObjectRef) × (or_else o (along (named (k ∷ ks)) t cs) ≡ Some w)
  first-found k ks cs None r = r
  first-found k ks cs (Some x) r = (x, refl)

  along-found : (k : Known) (ks : List Known) (line : List ℕ) (v : PyObjectRef) → along (called k) t line ≡ Some v → (w : PyObjectRef) × (along (named (k ∷ ks)) t line ≡ Some w)
  along-found k ks [] v e = cc
  along-found k ks (c ∷ cs) v e = go (own_of (called k) (class_at t c)) refl e (along-found k ks cs v)
    where
      go : (o : Option PyObjectRef) → own_of (called k) (class_at t c) ≡ o → or_else o (along (called k) t cs) ≡ Some v → (along (called k) t cs ≡ Some v → (w : PyObjectRef) × (along (named (k ∷ ks)) t cs ≡ Some w)) → (w : PyObjectRef) × (or_else (own_of (named (k ∷ ks)) (class_at t c)) (along (named (k ∷ ks)) t cs) ≡ Some w)
      go None h e r = first-found k ks cs (own_of (named (k ∷ ks)) (class_at t c)) (r e)
      go (Some u) h e r = let q = own-found k ks (class_at t c) u h in (q.0, ap (λ o. or_else o (along (named (k ∷ ks)) t cs)) q.1)

  own-only : (k : Known) (o : Option (Class PyStrInterned)) → own_of (named (k ∷ [])) o ≡ own_of (called k) o
  own-only k None = refl
  own-only k (Some c) = value_of-only (table_keys.special k) c.attrs

  along-only : (k : Known) (line : List ℕ) → along (named (k ∷ [])) t line ≡ along (called k) t line
  along-only k [] = refl
  along-only k (c ∷ cs) = ap (λ o. or_else o (along (named (k ∷ [])) t cs)) (own-only k (class_at t c)) ∙ ap (or_else (own_of (called k) (class_at t c))) (along-only k cs)

  own-no : (o : Option (Class PyStrInterned)) → own_of (named []) o ≡ None
  own-no None = refl
  own-no (Some c) = value_of-no c.attrs

  along-no : (line : List ℕ) → along (named []) t line ≡ None
  along-no [] = refl
  along-no (c ∷ cs) = ap (λ o. or_else o (along (named []) t cs)) (own-no (class_at t c)) ∙ along-no cs

  -- the names one after another: the first for which something is found gives the slot
  first_named : (s : SlotId) (line : List ℕ) → List Known → Option SlotEntry
  first_named s line [] = None
  first_named s line (k ∷ ks) = or_else (wrapped s (along (called k) t line)) (first_named s line ks)

  names-then : (s : SlotId) (line : List ℕ) (k : Known) (ks : List Known) → (is_slot s Hash ≡ true → ks ≡ []) → (wrapped s (along (named ks) t line) ≡ first_named s line ks) → (o : Option PyObjectRef) → along (called k) t line ≡ o → wrapped s (along (named (k ∷ ks)) t line) ≡ or_else (wrapped s o) (first_named s line ks)
  names-then s line k ks one rest None e = ap (wrapped s) (along-none k ks line e) ∙ rest
  names-then s line k ks one rest (Some v) e = go (is_slot s Hash) refl
    where
      go : (b : Bool) → is_slot s Hash ≡ b → wrapped s (along (named (k ∷ ks)) t line) ≡ wrapped s (Some v)
      go true h = ap (λ ys. wrapped s (along (named (k ∷ ys)) t line)) (one h) ∙ ap (wrapped s) (along-only k line ∙ e)
      go false h = let r = along-found k ks line v e in ap (wrapped s) r.1 ∙ wrapped-alike s r.0 v h

  names-found : (s : SlotId) (line : List ℕ) (ks : List Known) → (is_slot s Hash ≡ true → length ks ≤ 1) → wrapped s (along (named ks) t line) ≡ first_named s line ks
  unfolding first_named
  names-found s line [] few = ap (wrapped s) (along-no line)
  names-found s line (k ∷ ks) few = names-then s line k ks one (names-found s line ks (λ h. fewer (few h))) (along (called k) t line) refl
    where
      fewer : suc (length ks) ≤ 1 → length ks ≤ 1
      fewer l = omega (arith, l)

      none-left : (xs : List Known) → suc (length xs) ≤ 1 → xs ≡ []
      none-left [] l = refl
      none-left (x ∷ xs) l = absurd (omega (arith, l))

      one : is_slot s Hash ≡ true → ks ≡ []
      one h = none-left ks (few h)

-- `__new__` is the name of its own slot alone
abbrev none_new : List Known → Bool
none_new [] = true
none_new (k ∷ ks) = not (eqb (number_of k) (number_of known.New)) && none_new ks

abbrev rows_apart : ℕ → List (List Known) → Bool
rows_apart n [] = true
rows_apart n (r ∷ rows) = (eqb n (place_of New) || none_new r) && rows_apart (suc n) rows

all-apart : rows_apart 0 slot_names ≡ true
unfolding slot_names number_of place_of
all-apart = refl

both : (a b : Bool) → (a && b) ≡ true → (a ≡ true) × (b ≡ true)
both true b e = (refl, e)
both false b e = cc

row-apart : (n : ℕ) (rows : List (List Known)) (i : ℕ) → rows_apart n rows ≡ true → (eqb (n + i) (place_of New) || none_new (slice_index_or rows i [])) ≡ true
row-apart n [] i h = or-true (eqb (n + i) (place_of New))
  where
    or-true : (b : Bool) → (b || true) ≡ true
    or-true true = refl
    or-true false = refl
row-apart n (r ∷ rows) zero h = ap (λ m. eqb m (place_of New) || none_new r) (add-zero n) ∙ (both (eqb n (place_of New) || none_new r) (rows_apart (suc n) rows) h).0
row-apart n (r ∷ rows) (suc i) h =
    let e : n + suc i ≡ suc n + i = omega arith in
    ap (λ m. eqb m (place_of New) || none_new (slice_index_or rows i [])) e ∙ row-apart (suc n) rows i (both (eqb n (place_of New) || none_new r) (rows_apart (suc n) rows) h).1

-- `__new__` has one name
new-names : names_of New ≡ known.New ∷ []
unfolding slot_names place_of names_of
new-names = refl

-- a slot with the place of `__new__` is its slot
place-new : (s : SlotId) → place_of s ≡ place_of New → is_slot s New ≡ true
unfolding place_of
place-new s e = eq-eqb (place_of s) (place_of New) e

not-new : (s : SlotId) → is_slot s New ≡ false → none_new (names_of s) ≡ true
unfolding names_of
not-new s e = go (eqb (place_of s) (place_of New)) refl (row-apart 0 slot_names (place_of s) all-apart)
  where
    zero-more : 0 + place_of s ≡ place_of s
    zero-more = omega arith

    go : (b : Bool) → eqb (place_of s) (place_of New) ≡ b → (eqb (0 + place_of s) (place_of New) || none_new (slice_index_or slot_names (place_of s) [])) ≡ true → none_new (slice_index_or slot_names (place_of s) []) ≡ true
    go true h r = absurd (false≢true (sym e ∙ place-new s (eqb-true (place_of s) (place_of New) h)))
    go false h r = sym (ap (λ b. b || none_new (slice_index_or slot_names (place_of s) [])) (ap (λ m. eqb m (place_of New)) zero-more ∙ h)) ∙ r

module _ (t : Classes PyStrInterned) (c : ℕ) (line : List ℕ) (values : List (Option PyObjectRef)) (found : AreFound t c line values) where
  value-is : (k : Known) → number_of k < 70 → value_at values (number_of k) ≡ value_found t c line (number_of k)
  value-is k l = ap (option_and_then (λ v. v)) (found.at (number_of k) l)

  value-along : (k : Known) → number_of k < 70 → not (eqb (number_of k) (number_of known.New)) ≡ true → value_at values (number_of k) ≡ along (called k) t line
  value-along k l n = value-is k l ∙ go (eqb (number_of k) (number_of known.New)) n
    where
      go : (b : Bool) → not b ≡ true → cond b (own_of (is_called (number_of k)) (class_at t c)) (along (is_called (number_of k)) t line) ≡ along (called k) t line
      go true n = cc
      go false n = refl

  by-names : (s : SlotId) (ks : List Known) → below_all 70 ks ≡ true → none_new ks ≡ true → slot_by values s ks ≡ first_named t s line ks
  unfolding first_named
  by-names s [] b n = refl
  by-names s (k ∷ ks) b n =
      let p = both (ltb (number_of k) 70) (below_all 70 ks) b in
      let q = both (not (eqb (number_of k) (number_of known.New))) (none_new ks) n in
      ap (λ o. or_else (wrapped s o) (slot_by values s ks)) (value-along k (ltb-true (number_of k) 70 p.0) q.0) ∙ ap (or_else (wrapped s (along (called k) t line))) (by-names s ks p.1 q.1)

  by-new : (s : SlotId) → is_slot s New ≡ true → slot_by values s (names_of s) ≡ wrapped s (own_of (named (names_of s)) (class_at t c))
  by-new s e =
      let one : names_of s ≡ known.New ∷ [] = ap names_of (same_true the_type tt s New e) ∙ new-names in
      let here : number_of known.New < 70 = ltb-true (number_of known.New) 70 (both (ltb (number_of known.New) 70) true (sym (ap (below_all 70) one) ∙ names-below s)).0 in
      ap (slot_by values s) one
      ∙ or-none (wrapped s (value_at values (number_of known.New)))
      ∙ ap (wrapped s) (value-is known.New here ∙ ap (λ b. cond b (own_of (is_called (number_of known.New)) (class_at t c)) (along (is_called (number_of known.New)) t line)) (eq-eqb (number_of known.New) (number_of known.New) refl) ∙ sym (own-only t known.New (class_at t c)))
      ∙ ap (λ ks. wrapped s (own_of (named ks) (class_at t c))) (sym one)
    where
      or-none : (o : Option SlotEntry) → or_else o None ≡ o
      or-none None = refl
      or-none (Some x) = refl

  -- what was found gives each slot of a class that a script made
  pub slot-found : (s : SlotId) → slot_by values s (names_of s) ≡ heap_entry table_keys t c line s
  slot-found s = go (is_slot s New) refl
    where
      few : is_slot s Hash ≡ true → length (names_of s) ≤ 1
      few h = let e : length (names_of s) ≡ 1 = ap length (names-hash s h) in omega (arith, e)

      go : (b : Bool) → is_slot s New ≡ b → slot_by values s (names_of s) ≡ wrapped s (cond b (own_of (is_name_of table_keys s) (class_at t c)) (along (is_name_of table_keys s) t line))
      go true e = by-new s e
      go false e = by-names s (names_of s) (names-below s) (not-new s e) ∙ sym (names-found t s line (names_of s) few)

-- what the names give, one after another
module _ (values : List (Option PyObjectRef)) (s : SlotId) (ks : List Known) (i : ℕ) where
  at-name : (d : Known) → i < length ks → slot_by values s (drop i ks) ≡ or_else (wrapped s (value_at values (number_of (get_or ks i d)))) (slot_by values s (drop (i + 1) ks))
  at-name d l = ap (slot_by values s) (drop_more ks i d l)

  pub slot-by_found : (d : Known) → i < length ks → (v : PyObjectRef) → Some v ≡ value_at values (number_of (get_or ks i d)) → slot_by values s (drop i ks) ≡ wrapped s (Some v)
  slot-by_found d l v e = at-name d l ∙ ap (λ o. or_else (wrapped s o) (slot_by values s (drop (i + 1) ks))) (sym e)

  pub slot-by_next : (d : Known) → i < length ks → None ≡ value_at values (number_of (get_or ks i d)) → slot_by values s (drop (i + 1) ks) ≡ slot_by values s (drop i ks)
  slot-by_next d l e = sym (at-name d l ∙ ap (λ o. or_else (wrapped s o) (slot_by values s (drop (i + 1) ks))) (sym e))

  pub slot-by_end : length ks ≤ i → slot_by values s (drop i ks) ≡ None
  slot-by_end l = ap (slot_by values s) (drop_of_length-le ks l)

-- the number of `__new__`
pub new-number : number_of known.New ≡ 68
unfolding number_of
new-number = refl

-- a linearisation has a place
pub line-some : (kept : List StoredClass) → HasLines kept → (at : ℕ) (d : StoredClass) → at < length kept → 1 ≤ length (get_or kept at d).mro
line-some kept lines at d l = some (get_or kept at d).mro (get_or kept at d).number (lin-held (classes_of kept) (get_or kept at d).number (get_or kept at d).mro (lines.mro at (get_or kept at d) (slice_get-get_or kept at d l)))
  where
    some : (xs : List ℕ) (x : ℕ) → Includes xs x → 1 ≤ length xs
    some [] x h = absurd h
    some (y ∷ xs) x h = omega arith
