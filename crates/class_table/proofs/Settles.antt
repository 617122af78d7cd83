-- Those classes that are gone through get the slots of their definitions, and all others stay.
use Rattle.class_table.proofs.Below.{ℕ, zero, suc, Bool, true, false, cond, not, eqb, List, [], map, length, get_or, set, take, Option, Some, inl, inr, refl, sym, ap, ◌∙◌, arith, slice_get, option_and_then, cases_eq, eq-eqb, ne_eqb, false≢true, length-set, map-append, take_more, sum_by_push, slice_get_within, is_ascending, is_by_itself, heap_entry, given_entry, entry, entries, natives_of, table_keys, HasLines, SlotEntry, SlotId, place_of, all_slots, sort_of, get_or-set_same, slot-at_place, PyStrInterned, has, Includes, Distinct, without, Classes, is_heap, lin, Includes-equal, Includes-without, StoredClass, IsHere, class_of, classes_of, settled, line_length, line_places, line_kept, places_kept, is_ranked, is_heap_ranked, is_static_ranked, AreHeapsSettled, AreSettled, Ranked}
use Rattle.std.proofs.Common.{◌≡◌, ◌+◌, ◌<◌, ◌≤◌, ◌&&◌, ◌||◌, ◌∷◌, ◌++◌}
use Rattle.class_table.proofs.Along.{entry-given, given-heap}
use Rattle.class_table.proofs.Found.{place-class}
use Rattle.class_table.proofs.Refreshed.{part, part-then, plain-set, length-entries, entries-at}
use Rattle.class_table.proofs.Places.{get-set_cases, get-set_at, get-set_away, same-maps}

some-in : {A : Type 0} (xs : List A) (i : ℕ) → i < length xs → (x : A) × (slice_get xs i ≡ Some x)
some-in [] i l = absurd (omega arith)
some-in (x ∷ xs) zero l = (x, refl)
some-in (x ∷ xs) (suc i) l = some-in xs i (omega arith)

has-push : (xs : List ℕ) (y x : ℕ) → has (xs ++ y ∷ []) x ≡ (has xs x || eqb y x)
has-push [] y x = or-false (eqb y x)
  where
    or-false : (b : Bool) → (b || false) ≡ b
    or-false true = refl
    or-false false = refl
has-push (z ∷ xs) y x = ap (λ b. eqb z x || b) (has-push xs y x) ∙ or-assoc (eqb z x) (has xs x) (eqb y x)
  where
    or-assoc : (a b c : Bool) → (a || (b || c)) ≡ ((a || b) || c)
    or-assoc true b c = refl
    or-assoc false b c = refl

ranked-push : (rs : List Ranked) (y : Ranked) (i : ℕ) → is_ranked (rs ++ y ∷ []) i ≡ (is_ranked rs i || eqb y.place i)
ranked-push rs y i = ap (λ ps. has ps i) (map-append (λ (r : Ranked). r.place) rs (y ∷ [])) ∙ has-push (map (λ (r : Ranked). r.place) rs) y.place i

ranked-here : (rs : List Ranked) (y : Ranked) → is_ranked (rs ++ y ∷ []) y.place ≡ true
ranked-here rs y = ranked-push rs y y.place ∙ ap (λ b. is_ranked rs y.place || b) (eq-eqb y.place y.place refl) ∙ or-true (is_ranked rs y.place)
  where
    or-true : (b : Bool) → (b || true) ≡ true
    or-true true = refl
    or-true false = refl

ranked-away : (rs : List Ranked) (y : Ranked) (i : ℕ) → (y.place ≡ i → ⊥) → is_ranked (rs ++ y ∷ []) i ≡ is_ranked rs i
ranked-away rs y i n = ranked-push rs y i ∙ ap (λ b. is_ranked rs i || b) (ne_eqb y.place i n) ∙ or-false (is_ranked rs i)
  where
    or-false : (b : Bool) → (b || false) ≡ b
    or-false true = refl
    or-false false = refl

module _ (kind : StoredClass → Bool) (stays : (t : Classes PyStrInterned) (k : StoredClass) → kind (settled t k) ≡ kind k) where
  pub settled-start : (kept : List StoredClass) → AreSettled (λ i k. is_ranked [] i && kind k) kept kept
  settled-start kept = record { count = refl; at = λ i k e. e }

  pub settled-plain : (is : ℕ → StoredClass → Bool) (orig cur : List StoredClass) → AreSettled is orig cur → classes_of cur ≡ classes_of orig
  settled-plain is orig cur a = same-maps class_of orig cur a.count (λ i k e. (cond (is i k) (settled (classes_of orig) k) k, a.at i k e, same (is i k) k))
    where
      same : (b : Bool) (k : StoredClass) → class_of (cond b (settled (classes_of orig) k) k) ≡ class_of k
      same true k = refl
      same false k = refl

  -- one more that is not of the kind
  pub settled-skip : (rs : List Ranked) (y : Ranked) (orig cur : List StoredClass) → ((k : StoredClass) → slice_get orig y.place ≡ Some k → kind k ≡ false) → AreSettled (λ i k. is_ranked rs i && kind k) orig cur → AreSettled (λ i k. is_ranked (rs ++ y ∷ []) i && kind k) orig cur
  settled-skip rs y orig cur not_kind a = record {
    count = a.count;
    at = λ i k e. a.at i k e ∙ ap (λ b. Some (cond b (settled (classes_of orig) k) k)) (elim (cases_eq y.place i) [
      | inl q ↦
          let n = not_kind k (ap (slice_get orig) q ∙ e) in
          ap (λ b. is_ranked rs i && b) n ∙ and-false (is_ranked rs i) ∙ sym (ap (λ b. is_ranked (rs ++ y ∷ []) i && b) n ∙ and-false (is_ranked (rs ++ y ∷ []) i))
      | inr q ↦ ap (λ b. b && kind k) (sym (ranked-away rs y i q))
    ]);
  }
    where
      and-false : (b : Bool) → (b && false) ≡ false
      and-false true = refl
      and-false false = refl

  -- and one that is
  pub settled-more : (rs : List Ranked) (y : Ranked) (orig cur new : List StoredClass) (x : StoredClass) → AreSettled (λ i k. is_ranked rs i && kind k) orig cur → slice_get cur y.place ≡ Some x → kind x ≡ true → new ≡ set cur y.place (settled (classes_of cur) x) → AreSettled (λ i k. is_ranked (rs ++ y ∷ []) i && kind k) orig new
  settled-more rs y orig cur new x a here test is = record {
    count = ap length is ∙ length-set cur y.place (settled (classes_of cur) x) ∙ a.count;
    at = λ i k e. ap (λ ys. slice_get ys i) is ∙ elim (cases_eq y.place i) [
      | inl q ↦ at-here i k e q
      | inr q ↦
          get-set_away cur y.place (settled (classes_of cur) x) i (λ w. q (sym w))
          ∙ a.at i k e
          ∙ ap (λ b. Some (cond (b && kind k) (settled (classes_of orig) k) k)) (sym (ranked-away rs y i q))
    ];
  }
    where
      -- settled twice is settled once
      twice : (b : Bool) (k : StoredClass) → settled (classes_of orig) (cond b (settled (classes_of orig) k) k) ≡ settled (classes_of orig) k
      twice true k = refl
      twice false k = refl

      kind-of : (b : Bool) (k : StoredClass) → kind (cond b (settled (classes_of orig) k) k) ≡ kind k
      kind-of true k = stays (classes_of orig) k
      kind-of false k = refl

      at-here : (i : ℕ) (k : StoredClass) → slice_get orig i ≡ Some k → y.place ≡ i → slice_get (set cur y.place (settled (classes_of cur) x)) i ≡ Some (cond (is_ranked (rs ++ y ∷ []) i && kind k) (settled (classes_of orig) k) k)
      at-here i k e q =
          let was = a.at i k e in
          let b = is_ranked rs i && kind k in
          let same : x ≡ cond b (settled (classes_of orig) k) k = let h : slice_get cur i ≡ Some x = ap (slice_get cur) (sym q) ∙ here in cc in
          let of : kind k ≡ true = sym (kind-of b k) ∙ ap kind (sym same) ∙ test in
          let now : is_ranked (rs ++ y ∷ []) i ≡ true = ap (is_ranked (rs ++ y ∷ [])) (sym q) ∙ ranked-here rs y in
          ap (slice_get (set cur y.place (settled (classes_of cur) x))) (sym q)
          ∙ get-set_at cur y.place (settled (classes_of cur) x) (slice_get_within cur y.place x here)
          ∙ ap (λ t. Some (settled t x)) (settled-plain (λ j z. is_ranked rs j && kind z) orig cur a)
          ∙ ap (λ z. Some (settled (classes_of orig) z)) same
          ∙ ap Some (twice b k)
          ∙ sym (ap (λ d. Some (cond (d && kind k) (settled (classes_of orig) k) k)) now ∙ ap (λ d. Some (cond d (settled (classes_of orig) k) k)) of)

-- first those of one kind, and then all others
pub settled-both : (kind : StoredClass → Bool) (stays : (t : Classes PyStrInterned) (k : StoredClass) → kind (settled t k) ≡ kind k) (rs : List Ranked) (orig mid new : List StoredClass) → AreSettled (λ i k. is_ranked rs i && kind k) orig mid → AreSettled (λ i k. is_ranked rs i && not (kind k)) mid new → AreSettled (λ i k. is_ranked rs i) orig new
settled-both kind stays rs orig mid new a b = record {
  count = b.count ∙ a.count;
  at = λ i k e.
      let x = cond (is_ranked rs i && kind k) (settled (classes_of orig) k) k in
      b.at i x (a.at i k e)
      ∙ ap (λ t. Some (cond (is_ranked rs i && not (kind x)) (settled t x) x)) (settled-plain kind stays (λ j z. is_ranked rs j && kind z) orig mid a)
      ∙ ap Some (join (is_ranked rs i) (kind k) k refl);
}
  where
    join : (r d : Bool) (k : StoredClass) → kind k ≡ d → cond (r && not (kind (cond (r && d) (settled (classes_of orig) k) k))) (settled (classes_of orig) (cond (r && d) (settled (classes_of orig) k) k)) (cond (r && d) (settled (classes_of orig) k) k) ≡ cond r (settled (classes_of orig) k) k
    join false d k e = refl
    join true true k e = ap (λ b. cond (not b) (settled (classes_of orig) k) (settled (classes_of orig) k)) (stays (classes_of orig) k ∙ e)
    join true false k e = ap (λ b. cond (not b) (settled (classes_of orig) k) k) e

module _ (is : ℕ → StoredClass → Bool) (orig cur : List StoredClass) (a : AreSettled is orig cur) (plain : classes_of cur ≡ classes_of orig) where
  -- what stands at a place
  pub settled-from : (i : ℕ) (x : StoredClass) → slice_get cur i ≡ Some x → (k : StoredClass) × (slice_get orig i ≡ Some k) × (x ≡ cond (is i k) (settled (classes_of orig) k) k)
  settled-from i x e =
      let l = slice_get_within cur i x e in
      let n = a.count in
      let r = some-in orig i (omega (arith, l, n)) in
      let h = a.at i r.0 r.1 in
      (r.0, r.1, cc)

  kept-parts : (b : Bool) (k : StoredClass) → ((cond b (settled (classes_of orig) k) k).number ≡ k.number) × ((cond b (settled (classes_of orig) k) k).mro ≡ k.mro) × (is_heap (class_of (cond b (settled (classes_of orig) k) k)) ≡ is_heap (class_of k))
  kept-parts true k = (refl, refl, refl)
  kept-parts false k = (refl, refl, refl)

  -- so many places its linearisation has as it had
  pub line-settled : (i : ℕ) (x : StoredClass) → slice_get cur i ≡ Some x → line_kept (slice_get orig i) ≡ length x.mro
  line-settled i x e =
      let r = settled-from i x e in
      let q = kept-parts (is i r.0) r.0 in
      ap line_kept r.1 ∙ sym (ap (λ (z : StoredClass). length z.mro) r.2 ∙ ap length q.1)

  -- and a script made it if one had
  pub kind-settled : (i : ℕ) (x k : StoredClass) → slice_get cur i ≡ Some x → slice_get orig i ≡ Some k → is_heap (class_of x) ≡ is_heap (class_of k)
  kind-settled i x k e f =
      let r = settled-from i x e in
      let q = kept-parts (is i r.0) r.0 in
      let same : r.0 ≡ k = let h = r.1 in cc in
      ap (λ (z : StoredClass). is_heap (class_of z)) r.2 ∙ q.2 ∙ ap (λ (z : StoredClass). is_heap (class_of z)) same

  -- linearisations stay
  pub settled-lines : HasLines orig → HasLines cur
  settled-lines ok = record {
    ascending = ap is_ascending plain ∙ ok.ascending;
    mro = λ i x e.
        let r = settled-from i x e in
        let q = kept-parts (is i r.0) r.0 in
        ap (λ t. lin t x.number) plain ∙ ap (λ (z : StoredClass). lin (classes_of orig) z.number) r.2 ∙ ap (lin (classes_of orig)) q.0 ∙ ok.mro i r.0 r.1 ∙ ap Some (sym (ap (λ (z : StoredClass). z.mro) r.2 ∙ q.1));
  }

  -- so do the numbers of slots
  pub settled-full : ((i : ℕ) (k : StoredClass) → slice_get orig i ≡ Some k → length k.slots ≡ 73) → (i : ℕ) (x : StoredClass) → slice_get cur i ≡ Some x → length x.slots ≡ 73
  settled-full full i x e =
      let r = settled-from i x e in
      ap (λ (z : StoredClass). length z.slots) r.2 ∙ go (is i r.0) r.0 (full i r.0 r.1)
    where
      go : (b : Bool) (k : StoredClass) → length k.slots ≡ 73 → length (cond b (settled (classes_of orig) k) k).slots ≡ 73
      go true k h = length-entries (classes_of orig) k.number
      go false k h = h

-- where those that a script made are settled, and those that are not gone through have their slots, all that a script made have
pub heaps-settled : (rs : List Ranked) (orig mid : List StoredClass) → AreSettled (is_heap_ranked rs) orig mid → classes_of mid ≡ classes_of orig → ((i : ℕ) (k : StoredClass) → slice_get orig i ≡ Some k → is_ranked rs i ≡ false → k.slots ≡ entries table_keys natives_of (classes_of orig) k.number) → AreHeapsSettled mid
heaps-settled rs orig mid a plain away i x e heap =
    let r = settled-from (is_heap_ranked rs) orig mid a plain i x e in
    let q = kept-parts (is_heap_ranked rs) orig mid a plain (is_heap_ranked rs i r.0) r.0 in
    let h : is_heap (class_of r.0) ≡ true = sym q.2 ∙ ap (λ (z : StoredClass). is_heap (class_of z)) (sym r.2) ∙ heap in
    ap (λ (z : StoredClass). z.slots) r.2
    ∙ go (is_ranked rs i) refl (is_heap (class_of r.0)) h r.0 (away i r.0 r.1)
    ∙ ap (entries table_keys natives_of (classes_of orig)) (sym (ap (λ (z : StoredClass). z.number) r.2 ∙ q.0))
    ∙ ap (λ t. entries table_keys natives_of t x.number) (sym plain)
  where
    go : (b : Bool) → is_ranked rs i ≡ b → (d : Bool) → d ≡ true → (k : StoredClass) → (is_ranked rs i ≡ false → k.slots ≡ entries table_keys natives_of (classes_of orig) k.number) → (cond (b && d) (settled (classes_of orig) k) k).slots ≡ entries table_keys natives_of (classes_of orig) k.number
    go true w true h k f = refl
    go true w false h k f = cc
    go false w d h k f = f w

-- what a class that a script made has in a slot is what its names give
pub heap-entry-is : (kept : List StoredClass) → HasLines kept → (i : ℕ) (k : StoredClass) → slice_get kept i ≡ Some k → is_heap (class_of k) ≡ true → (s : SlotId) → entry table_keys natives_of (classes_of kept) k.number s ≡ heap_entry table_keys (classes_of kept) k.number k.mro s
heap-entry-is kept lines i k e heap s =
    let there = place-class kept lines.ascending i k e in
    let line = lines.mro i k e in
    entry-given (classes_of kept) k.number (class_of k) k.mro there line s (ap (λ b. not b && is_by_itself (sort_of s)) heap)
    ∙ given-heap (classes_of kept) k.number (class_of k) k.mro there line s heap

-- one slot more of the class at a place, where what is written is what its definition says of the classes as they were
pub part-written : (kept : List StoredClass) (at : ℕ) (k : StoredClass) → at < length kept → k ≡ get_or kept at k → (i : ℕ) (s : SlotId) (e : Option SlotEntry) (cur new : List StoredClass) → slice_get all_slots i ≡ Some s → length k.slots ≡ 73 → cur ≡ set kept at (part (classes_of kept) i k) → e ≡ entry table_keys natives_of (classes_of kept) k.number s → new ≡ set cur at (record (get_or cur at k) { slots = set (get_or cur at k).slots (place_of s) e }) → new ≡ set kept at (part (classes_of kept) (i + 1) k)
part-written kept at k within here i s e cur new is n same written f =
    let x = part (classes_of kept) i k in
    let held : get_or cur at k ≡ x = ap (λ ys. get_or ys at k) same ∙ get_or-set_same kept at x k within in
    let plain : classes_of cur ≡ classes_of kept = ap classes_of same ∙ plain-set kept at k x within here refl in
    let now : e ≡ entry table_keys natives_of (classes_of cur) (get_or cur at k).number s = written ∙ ap (λ t. entry table_keys natives_of t k.number s) (sym plain) ∙ ap (λ (z : StoredClass). entry table_keys natives_of (classes_of cur) z.number s) (sym held) in
    part-then kept at k within here i s cur new is n same (f ∙ ap (λ w. set cur at (record (get_or cur at k) { slots = set (get_or cur at k).slots (place_of s) w })) now)

-- what is added up along a list without repeats is no more than along one that has all of it
module _ {K : Type 0} (t : Classes K) where
  places-without : (x : ℕ) (ms : List ℕ) → line_places t (without x ms) ≤ line_places t ms
  places-without x [] = omega arith
  places-without x (m ∷ ms) = go (eqb m x) (places-without x ms)
    where
      go : (b : Bool) → line_places t (without x ms) ≤ line_places t ms → line_places t (cond (not b) (m ∷ without x ms) (without x ms)) ≤ line_places t (m ∷ ms)
      go true h = omega (arith, h)
      go false h = omega (arith, h)

  places-held : (x : ℕ) (ms : List ℕ) → Includes ms x → line_length (lin t x) + line_places t (without x ms) ≤ line_places t ms
  places-held x [] h = absurd h
  places-held x (m ∷ ms) (inl e) =
      let w = places-without x ms in
      let same : line_length (lin t m) ≡ line_length (lin t x) = ap (λ z. line_length (lin t z)) e in
      rw (eq-eqb m x e) (omega (arith, w, same))
  places-held x (m ∷ ms) (inr h) = go (eqb m x) (places-held x ms h)
    where
      go : (b : Bool) → line_length (lin t x) + line_places t (without x ms) ≤ line_places t ms → line_length (lin t x) + line_places t (cond (not b) (m ∷ without x ms) (without x ms)) ≤ line_places t (m ∷ ms)
      go true r = omega (arith, r)
      go false r = omega (arith, r)

  pub distinct-places : (xs ms : List ℕ) → Distinct xs → ((y : ℕ) → Includes xs y → Includes ms y) → line_places t xs ≤ line_places t ms
  distinct-places [] ms d h = omega arith
  distinct-places (x ∷ xs) ms d h =
      let rest = distinct-places xs (without x ms) d.1 (λ y k. Includes-without x y ms (h y (inr k)) (λ e. d.0 (Includes-equal xs y x e k))) in
      let held = places-held x ms (h x (inl refl)) in
      omega (arith, rest, held)

-- what is kept of a class that a script made is what it has itself
pub kept-heap : (kept : List StoredClass) → HasLines kept → AreHeapsSettled kept → (c : ℕ) (k : StoredClass) → IsHere kept c k → is_heap (class_of k) ≡ true → (s : SlotId) → option_and_then (λ e. e) (slice_get k.slots (place_of s)) ≡ given_entry table_keys natives_of (classes_of kept) s c
kept-heap kept lines heaps c k here heap s =
    ap (λ ys. option_and_then (λ (e : Option SlotEntry). e) (slice_get ys (place_of s))) (heaps here.place k here.at heap)
    ∙ ap (option_and_then (λ (e : Option SlotEntry). e)) (entries-at (classes_of kept) k.number (place_of s) s (slot-at_place s))
    ∙ entry-given (classes_of kept) k.number (class_of k) k.mro (place-class kept lines.ascending here.place k here.at) (lines.mro here.place k here.at) s (ap (λ b. not b && is_by_itself (sort_of s)) heap)
    ∙ ap (given_entry table_keys natives_of (classes_of kept) s) here.number

-- while a class that no script made is settled, those that a script made have their slots
pub part-heaps : (kept : List StoredClass) (at : ℕ) (k : StoredClass) → at < length kept → k ≡ get_or kept at k → is_heap (class_of k) ≡ false → AreHeapsSettled kept → (i : ℕ) → AreHeapsSettled (set kept at (part (classes_of kept) i k))
part-heaps kept at k within here static heaps i j x e heap = elim (get-set_cases kept at (part (classes_of kept) i k) j x e) [
  | inl r ↦ absurd (false≢true (sym static ∙ ap (λ (z : StoredClass). is_heap (class_of z)) r.1 ∙ heap))
  | inr r ↦ heaps j x r.1 heap ∙ ap (λ t. entries table_keys natives_of t x.number) (sym (plain-set kept at k (part (classes_of kept) i k) within here refl))
]

-- those that a script made keep their slots where only others are settled
pub heaps-keep : (rs : List Ranked) (orig cur : List StoredClass) → AreSettled (is_static_ranked rs) orig cur → classes_of cur ≡ classes_of orig → AreHeapsSettled orig → AreHeapsSettled cur
heaps-keep rs orig cur a plain heaps i x e heap =
    let r = settled-from (is_static_ranked rs) orig cur a plain i x e in
    let q = kept-parts (is_static_ranked rs) orig cur a plain (is_static_ranked rs i r.0) r.0 in
    let h : is_heap (class_of r.0) ≡ true = sym q.2 ∙ ap (λ (z : StoredClass). is_heap (class_of z)) (sym r.2) ∙ heap in
    ap (λ (z : StoredClass). z.slots) r.2
    ∙ go (is_ranked rs i) (is_heap (class_of r.0)) h r.0
    ∙ heaps i r.0 r.1 h
    ∙ ap (entries table_keys natives_of (classes_of orig)) (sym (ap (λ (z : StoredClass). z.number) r.2 ∙ q.0))
    ∙ ap (λ t. entries table_keys natives_of t x.number) (sym plain)
  where
    go : (b d : Bool) → d ≡ true → (k : StoredClass) → (cond (b && not d) (settled (classes_of orig) k) k).slots ≡ k.slots
    go true true h k = refl
    go true false h k = cc
    go false d h k = refl

-- the first of some that are gone through
module _ (rs : List Ranked) (i : ℕ) (d : Ranked) where
  -- one more adds its places
  pub places-more : (kept : List StoredClass) → i < length rs → places_kept kept (take (i + 1) rs) ≡ places_kept kept (take i rs) + line_kept (slice_get kept (get_or rs i d).place)
  places-more kept l =
      ap (λ ys. places_kept kept ys) (take_more rs i d l) ∙ sum_by_push (λ (r : Ranked). line_kept (slice_get kept r.place)) (take i rs) (get_or rs i d)
