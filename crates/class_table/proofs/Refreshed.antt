-- Slots found anew, one after another, and one class after another.
use Rattle.class_table.proofs.Below.{ℕ, zero, suc, List, [], length, get_or, set, take, drop, map, Option, Some, Bool, true, false, cond, ltb, eqb, inl, inr, refl, sym, ap, subst, ◌∙◌, arith, append_assoc, append-nil, slice_get, option_map, drop_more, take_more, set_at, set-set, set-get_or, get_or-set_same, length-take-le, length-map, get_or-map, map-set, take_all, drop_of_length-le, slice_get-map, slice_get-get_or, get_or_from_slice_get, slice_get_within, lt-ltb, le-ltb, eqb-true, eqb-false, PyStrInterned, SlotEntry, SlotId, place_of, all_slots, has, Class, Classes, lin, is_ascending, is_name_of, entry, entries, natives_of, table_keys, StoredClass, class_of, classes_of, HasLines, NoneNamed, IsNear, AreNear, IsRefreshed, settled, refreshed_one, Add}
use Rattle.std.proofs.Common.{◌≡◌, ◌+◌, ◌<◌, ◌≤◌, ◌∷◌, ◌++◌}
use Rattle.class_table.proofs.Slots.{place-at, length-all, no_special}
use Rattle.class_table.proofs.Places.{get-set_cases, get-set_at, get-set_away, below-apart, same-maps, same-lists}

-- a write that does not change the class itself
pub plain-set : (kept : List StoredClass) (b : ℕ) (k x : StoredClass) → b < length kept → k ≡ get_or kept b k → class_of x ≡ class_of k → classes_of (set kept b x) ≡ classes_of kept
plain-set kept b k x l e h =
    map-set class_of kept b x
    ∙ ap (set (map class_of kept) b) (h ∙ ap class_of e ∙ sym (get_or-map class_of kept b k (class_of k) l))
    ∙ set-get_or (map class_of kept) b (class_of k)

pub there : (kept : List StoredClass) (b : ℕ) (k : StoredClass) → b < length kept → k ≡ get_or kept b k → slice_get kept b ≡ Some k
there kept b k l e = slice_get-get_or kept b k l ∙ ap Some (sym e)

pub lines-set : (kept : List StoredClass) (b : ℕ) (k x : StoredClass) → HasLines kept → b < length kept → k ≡ get_or kept b k → class_of x ≡ class_of k → k.mro ≡ x.mro → HasLines (set kept b x)
lines-set kept b k x ok l e h m = record {
  ascending = ap is_ascending (plain-set kept b k x l e h) ∙ ok.ascending;
  mro = λ d y p.
      ap (λ t. lin t y.number) (plain-set kept b k x l e h)
      ∙ elim (get-set_cases kept b x d y p) [
        | inl r ↦
            ap (λ (z : StoredClass). lin (classes_of kept) z.number) (sym r.1)
            ∙ ap (λ (j : Class PyStrInterned). lin (classes_of kept) j.number) h
            ∙ ok.mro b k (there kept b k l e)
            ∙ ap Some m
            ∙ ap (λ (z : StoredClass). Some z.mro) r.1
        | inr r ↦ ok.mro d y r.1
      ];
}

-- the first slots are found anew
abbrev pub part : Classes PyStrInterned → ℕ → StoredClass → StoredClass
part t i k = record k { slots = take i (entries table_keys natives_of t k.number) ++ drop i k.slots }

pub length-entries : (t : Classes PyStrInterned) (c : ℕ) → length (entries table_keys natives_of t c) ≡ 73
length-entries t c = length-map all_slots (entry table_keys natives_of t c) ∙ length-all

pub entries-at : (t : Classes PyStrInterned) (c i : ℕ) (s : SlotId) → slice_get all_slots i ≡ Some s → slice_get (entries table_keys natives_of t c) i ≡ Some (entry table_keys natives_of t c s)
entries-at t c i s e = slice_get-map (entry table_keys natives_of t c) all_slots i ∙ ap (option_map (entry table_keys natives_of t c)) e

next : (E slots : List (Option SlotEntry)) (i : ℕ) (e : Option SlotEntry) → slice_get E i ≡ Some e → take i E ++ e ∷ drop (i + 1) slots ≡ take (i + 1) E ++ drop (i + 1) slots
next E slots i e is =
    let l = slice_get_within E i e is in
    sym (
    ap (λ ys. ys ++ drop (i + 1) slots) (take_more E i e l)
    ∙ append_assoc (take i E) (get_or E i e ∷ []) (drop (i + 1) slots)
    ∙ ap (λ z. take i E ++ z ∷ drop (i + 1) slots) (get_or_from_slice_get E i e e is)
    )

written : (E slots : List (Option SlotEntry)) (i : ℕ) (e : Option SlotEntry) → i < length slots → slice_get E i ≡ Some e → set (take i E ++ drop i slots) i e ≡ take (i + 1) E ++ drop (i + 1) slots
written E slots i e l is =
    let m = slice_get_within E i e is in
    ap (λ ys. set (take i E ++ ys) i e) (drop_more slots i e l)
    ∙ set_at (take i E) (get_or slots i e) (drop (i + 1) slots) e i (length-take-le i E (omega arith))
    ∙ next E slots i e is

left : (E slots : List (Option SlotEntry)) (i : ℕ) (e : Option SlotEntry) → slice_get slots i ≡ Some e → slice_get E i ≡ Some e → take i E ++ drop i slots ≡ take (i + 1) E ++ drop (i + 1) slots
left E slots i e h is =
    ap (λ ys. take i E ++ ys) (drop_more slots i e (slice_get_within slots i e h))
    ∙ ap (λ z. take i E ++ z ∷ drop (i + 1) slots) (get_or_from_slice_get slots i e e h)
    ∙ next E slots i e is

module _ (kept : List StoredClass) (c : ℕ) (k : StoredClass) (within : c < length kept) (at : k ≡ get_or kept c k) where
  pub part-start : kept ≡ set kept c (part (classes_of kept) 0 k)
  part-start = sym (set-get_or kept c k) ∙ ap (set kept c) (sym at)

  pub part-end : (i : ℕ) → 73 ≤ i → length k.slots ≡ 73 → set kept c (part (classes_of kept) i k) ≡ set kept c (settled (classes_of kept) k)
  part-end i l n =
      let E = entries table_keys natives_of (classes_of kept) k.number in
      let m = length-entries (classes_of kept) k.number in
      let front : take i E ≡ E = take_all i E (omega arith) in
      let back : drop i k.slots ≡ [] = drop_of_length-le k.slots {i = i} (omega arith) in
      ap (λ (ys : List (Option SlotEntry)). set kept c (record k { slots = ys })) (ap (λ ys. ys ++ drop i k.slots) front ∙ ap (λ ys. E ++ ys) back ∙ append-nil E)

  pub part-lines : (i : ℕ) → HasLines kept → HasLines (set kept c (part (classes_of kept) i k))
  part-lines i ok = lines-set kept c k (part (classes_of kept) i k) ok within at refl refl

  pub part-then : (i : ℕ) (s : SlotId) (cur new : List StoredClass) → slice_get all_slots i ≡ Some s → length k.slots ≡ 73 → cur ≡ set kept c (part (classes_of kept) i k) → new ≡ set cur c (record (get_or cur c k) { slots = set (get_or cur c k).slots (place_of s) (entry table_keys natives_of (classes_of cur) (get_or cur c k).number s) }) → new ≡ set kept c (part (classes_of kept) (i + 1) k)
  part-then i s cur new is n e f =
      let x = part (classes_of kept) i k in
      let E = entries table_keys natives_of (classes_of kept) k.number in
      let held : get_or cur c k ≡ x = ap (λ ys. get_or ys c k) e ∙ get_or-set_same kept c x k within in
      let same : classes_of cur ≡ classes_of kept = ap classes_of e ∙ plain-set kept c k x within at refl in
      let l = slice_get_within all_slots i s is in
      let m = length-all in
      f
      ∙ ap (λ (y : StoredClass). set cur c (record y { slots = set y.slots (place_of s) (entry table_keys natives_of (classes_of cur) y.number s) })) held
      ∙ ap (λ (t : Classes PyStrInterned). set cur c (record x { slots = set x.slots (place_of s) (entry table_keys natives_of t k.number s) })) same
      ∙ ap (λ (j : ℕ). set cur c (record x { slots = set x.slots j (entry table_keys natives_of (classes_of kept) k.number s) })) (place-at i s is)
      ∙ ap (λ (ys : List (Option SlotEntry)). set cur c (record k { slots = ys })) (written E k.slots i (entry table_keys natives_of (classes_of kept) k.number s) (omega arith) (entries-at (classes_of kept) k.number i s is))
      ∙ ap (λ (ys : List StoredClass). set ys c (part (classes_of kept) (i + 1) k)) e
      ∙ set-set kept c x (part (classes_of kept) (i + 1) k)

  pub part-else : (i : ℕ) (s : SlotId) (name : PyStrInterned) → slice_get all_slots i ≡ Some s → IsNear (classes_of kept) name k → is_name_of table_keys s name ≡ false → set kept c (part (classes_of kept) i k) ≡ set kept c (part (classes_of kept) (i + 1) k)
  part-else i s name is near test =
      let E = entries table_keys natives_of (classes_of kept) k.number in
      ap (λ (ys : List (Option SlotEntry)). set kept c (record k { slots = ys })) (left E k.slots i (entry table_keys natives_of (classes_of kept) k.number s) (ap (slice_get k.slots) (sym (place-at i s is)) ∙ near.others s test) (entries-at (classes_of kept) k.number i s is))

  -- slots of which the name is none are as they should be already
  pub part-skip : (name : PyStrInterned) (d i : ℕ) → d + i ≤ 73 → IsNear (classes_of kept) name k → NoneNamed name i (d + i) → set kept c (part (classes_of kept) i k) ≡ set kept c (part (classes_of kept) (d + i) k)
  part-skip name zero i l near h =
      let j : i ≡ zero + i = omega arith in
      ap (λ (m : ℕ). set kept c (part (classes_of kept) m k)) j
  part-skip name (suc d) i l near h =
      let n = length-all in
      let s : SlotId = get_or all_slots (d + i) Add in
      let is : slice_get all_slots (d + i) ≡ Some s = slice_get-get_or all_slots (d + i) Add (omega (arith, l, n)) in
      let j : (d + i) + 1 ≡ suc d + i = omega arith in
      part-skip name d i (omega (arith, l)) near (λ m r a b e. h m r a (omega (arith, b)) e)
      ∙ part-else (d + i) s name is near (h (d + i) s (omega arith) (omega arith) is)
      ∙ ap (λ (m : ℕ). set kept c (part (classes_of kept) m k)) j

-- one more class of the table has been looked at
module _ (class n : ℕ) (orig cur new : List StoredClass) (same : classes_of cur ≡ classes_of orig) (at : (i : ℕ) (k : StoredClass) → slice_get orig i ≡ Some k → slice_get cur i ≡ Some (cond (ltb i n) (refreshed_one (classes_of orig) class k) k)) where
  -- what stands at the place
  pub stands : (k : StoredClass) → slice_get orig n ≡ Some k → slice_get cur n ≡ Some k
  stands k e = at n k e ∙ ap (λ b. Some (cond b (refreshed_one (classes_of orig) class k) k)) (le-ltb n n (omega arith))

  here : (k : StoredClass) → cond (ltb n (n + 1)) (refreshed_one (classes_of orig) class k) k ≡ refreshed_one (classes_of orig) class k
  here k = ap (λ b. cond b (refreshed_one (classes_of orig) class k) k) (lt-ltb n (n + 1) (omega arith))

  away : (i : ℕ) (k : StoredClass) → (i ≡ n → ⊥) → cond (ltb i n) (refreshed_one (classes_of orig) class k) k ≡ cond (ltb i (n + 1)) (refreshed_one (classes_of orig) class k) k
  away i k h = ap (λ b. cond b (refreshed_one (classes_of orig) class k) k) (below-apart i n h)

  pub refreshed-then : (x : StoredClass) → n < length cur → x ≡ get_or cur n x → has x.mro class ≡ true → new ≡ set cur n (settled (classes_of cur) x) → (i : ℕ) (k : StoredClass) → slice_get orig i ≡ Some k → slice_get new i ≡ Some (cond (ltb i (n + 1)) (refreshed_one (classes_of orig) class k) k)
  refreshed-then x l held test is i k e = go (eqb i n) refl
    where
      go : (b : Bool) → eqb i n ≡ b → slice_get new i ≡ Some (cond (ltb i (n + 1)) (refreshed_one (classes_of orig) class k) k)
      go true h =
          let j : i ≡ n = eqb-true i n h in
          let e' : slice_get orig n ≡ Some k = ap (slice_get orig) (sym j) ∙ e in
          let y : x ≡ k = held ∙ get_or_from_slice_get cur n k x (stands k e') in
          let t : has k.mro class ≡ true = ap (λ (z : StoredClass). has z.mro class) (sym y) ∙ test in
          ap (λ ys. slice_get ys i) is
          ∙ ap (slice_get (set cur n (settled (classes_of cur) x))) j
          ∙ get-set_at cur n (settled (classes_of cur) x) l
          ∙ ap (λ (z : StoredClass). Some (settled (classes_of cur) z)) y
          ∙ ap (λ (u : Classes PyStrInterned). Some (settled u k)) same
          ∙ ap (λ b. Some (cond b (settled (classes_of orig) k) k)) (sym t)
          ∙ ap Some (sym (here k))
          ∙ ap (λ (m : ℕ). Some (cond (ltb m (n + 1)) (refreshed_one (classes_of orig) class k) k)) (sym j)
      go false h =
          let j : i ≡ n → ⊥ = eqb-false i n h in
          ap (λ ys. slice_get ys i) is ∙ get-set_away cur n (settled (classes_of cur) x) i j ∙ at i k e ∙ ap Some (away i k j)

  pub refreshed-else : (x : StoredClass) → x ≡ get_or cur n x → has x.mro class ≡ false → new ≡ cur → (i : ℕ) (k : StoredClass) → slice_get orig i ≡ Some k → slice_get new i ≡ Some (cond (ltb i (n + 1)) (refreshed_one (classes_of orig) class k) k)
  refreshed-else x held test is i k e = go (eqb i n) refl
    where
      go : (b : Bool) → eqb i n ≡ b → slice_get new i ≡ Some (cond (ltb i (n + 1)) (refreshed_one (classes_of orig) class k) k)
      go true h =
          let j : i ≡ n = eqb-true i n h in
          let e' : slice_get orig n ≡ Some k = ap (slice_get orig) (sym j) ∙ e in
          let y : x ≡ k = held ∙ get_or_from_slice_get cur n k x (stands k e') in
          let t : has k.mro class ≡ false = ap (λ (z : StoredClass). has z.mro class) (sym y) ∙ test in
          ap (λ ys. slice_get ys i) is
          ∙ ap (slice_get cur) j
          ∙ stands k e'
          ∙ ap (λ b. Some (cond b (settled (classes_of orig) k) k)) (sym t)
          ∙ ap Some (sym (here k))
          ∙ ap (λ (m : ℕ). Some (cond (ltb m (n + 1)) (refreshed_one (classes_of orig) class k) k)) (sym j)
      go false h =
          let j : i ≡ n → ⊥ = eqb-false i n h in
          ap (λ ys. slice_get ys i) is ∙ at i k e ∙ ap Some (away i k j)

  -- the slots of the class that is looked at are near their definitions
  pub near-now : (name : PyStrInterned) (x : StoredClass) → AreNear name class orig → length cur ≡ length orig → n < length orig → x ≡ get_or cur n x → has x.mro class ≡ true → IsNear (classes_of cur) name x
  near-now name x near count l held test =
      let k = get_or orig n x in
      let e : slice_get orig n ≡ Some k = slice_get-get_or orig n x l in
      let y : x ≡ k = held ∙ get_or_from_slice_get cur n k x (stands k e) in
      let P : StoredClass → Type 0 = λ z. IsNear (classes_of cur) name z in
      let Q : Classes PyStrInterned → Type 0 = λ t. IsNear t name k in
      subst P (sym y) (subst Q (sym same) (near n k e (ap (λ (z : StoredClass). has z.mro class) (sym y) ∙ test)))

plain-refreshed_one : (t : Classes PyStrInterned) (k : StoredClass) (b : Bool) → class_of (cond b (settled t k) k) ≡ class_of k
plain-refreshed_one t k true = refl
plain-refreshed_one t k false = refl

pub plain-refreshed : (class : ℕ) (old new : List StoredClass) → IsRefreshed class old new → classes_of new ≡ classes_of old
plain-refreshed class old new r =
    same-maps class_of old new r.count (λ i k e. (refreshed_one (classes_of old) class k, r.at i k e, plain-refreshed_one (classes_of old) k (has k.mro class)))

-- where every slot is near its definition, all are as defined
pub settled-near : (t : Classes PyStrInterned) (name : PyStrInterned) (k : StoredClass) → 70 ≤ name.0 → IsNear t name k → k.slots ≡ entries table_keys natives_of t k.number
settled-near t name k l near = same-lists (entries table_keys natives_of t k.number) k.slots (near.count ∙ sym (length-entries t k.number)) at
  where
    at : (i : ℕ) (e : Option SlotEntry) → slice_get (entries table_keys natives_of t k.number) i ≡ Some e → slice_get k.slots i ≡ Some e
    at i e is =
        let m = slice_get_within (entries table_keys natives_of t k.number) i e is in
        let n = length-entries t k.number in
        let a = length-all in
        let s = get_or all_slots i Add in
        let h : slice_get all_slots i ≡ Some s = slice_get-get_or all_slots i Add (omega arith) in
        ap (slice_get k.slots) (sym (place-at i s h)) ∙ near.others s (no_special s name l) ∙ sym (entries-at t k.number i s h) ∙ is

refreshed-one-same : (t : Classes PyStrInterned) (k : StoredClass) (b : Bool) → (b ≡ true → k.slots ≡ entries table_keys natives_of t k.number) → k ≡ cond b (settled t k) k
refreshed-one-same t k true h = ap (λ (ys : List (Option SlotEntry)). record k { slots = ys }) (h refl)
refreshed-one-same t k false h = refl

-- a name that is no special name leaves all as it is
pub refreshed-none : (class : ℕ) (name : PyStrInterned) (kept : List StoredClass) → 70 ≤ name.0 → AreNear name class kept → IsRefreshed class kept kept
refreshed-none class name kept l near = record {
  count = refl;
  at = λ i k e. e ∙ ap Some (refreshed-one-same (classes_of kept) k (has k.mro class) (λ h. settled-near (classes_of kept) name k l (near i k e h)));
}
