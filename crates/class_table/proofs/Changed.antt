-- Own attributes of a class that are changed, and the slots that are found anew.
use Rattle.class_table.proofs.Below.{ℕ, zero, suc, List, [], length, get_or, set, Option, Some, None, Bool, true, false, cond, inl, inr, refl, sym, ap, subst, ◌∙◌, arith, slice_get, option_map, leb, is_some, map-set, set-get_or, slice_get-map, slice_get-get_or, slice_get_within, eq-eqb, ne_eqb, and_parts, PyStrInterned, place_of, All, PyObjectRef, value_of, without_key, is_same_name, AreNamesDistinct, has, Class, Classes, lin, subclasses, numbers_of, ascend_from, is_ascending, base, solid, place_count, entries, AreSound, natives_of, with_changed, no-less, table_keys, StoredClass, class_of, classes_of, HasLines, IsCoherent, IsNear, AreNear, IsRefreshed, settled, refreshed_one, slot-at_place}
use Rattle.std.proofs.Common.{◌≡◌, ◌<◌, ◌∷◌}
use Rattle.class_table.proofs.Edited.{Attrs, taken-absent, TouchesOnly, edited, lin-edited, solid-edited, base-edited, sound-edited, count-edited, entries-away, entry-other, all-edited, subclasses-edited}
use Rattle.class_table.proofs.Places.{get-set_cases}
use Rattle.class_table.proofs.Refreshed.{there, entries-at, plain-refreshed, length-entries}

pub with_changed-set : (f : Class PyStrInterned → Class PyStrInterned) (n : ℕ) (t : Classes PyStrInterned) (i : ℕ) (k : Class PyStrInterned) → ascend_from n (numbers_of t) ≡ true → slice_get t i ≡ Some k → with_changed f t k.number ≡ set t i (f k)
with_changed-set f n [] i k up e = cc
with_changed-set f n (j ∷ t) zero k up e =
    let s : j ≡ k = cc in
    ap (λ b. cond b (f j ∷ t) (j ∷ with_changed f t k.number)) (eq-eqb j.number k.number (ap (λ (x : Class PyStrInterned). x.number) s)) ∙ ap (λ (x : Class PyStrInterned). f x ∷ t) s
with_changed-set f n (j ∷ t) (suc i) k up e =
    let q = and_parts (leb n j.number) (ascend_from (suc j.number) (numbers_of t)) up in
    let l = no-less (suc j.number) t i k q.1 e in
    ap (λ b. cond b (f j ∷ t) (j ∷ with_changed f t k.number)) (ne_eqb j.number k.number (λ z. omega arith)) ∙ ap (λ ys. j ∷ ys) (with_changed-set f (suc j.number) t i k q.1 e)

module _ (kept : List StoredClass) (ok : IsCoherent kept) (c : ℕ) (k : StoredClass) (within : c < length kept) (at : k ≡ get_or kept c k) (n : PyStrInterned) (g : Attrs → Attrs) (touches : TouchesOnly n g) where
  changed : StoredClass
  changed = record k { attrs = g k.attrs }

  new : Classes PyStrInterned
  new = with_changed (edited g) (classes_of kept) k.number

  pub plain-changed : classes_of (set kept c (record k { attrs = g k.attrs })) ≡ with_changed (edited g) (classes_of kept) k.number
  unfolding changed new
  plain-changed =
      map-set class_of kept c changed
      ∙ sym (with_changed-set (edited g) 0 (classes_of kept) c (class_of k) ok.sound.ascending (slice_get-map class_of kept c ∙ ap (option_map class_of) (there kept c k within at)))

  -- what the table had at a place
  record Was (d : ℕ) (y : StoredClass) : Type 0 where
    old : StoredClass
    there : slice_get kept d ≡ Some old
    number : old.number ≡ y.number
    mro : old.mro ≡ y.mro
    slots : old.slots ≡ y.slots
    base : old.base ≡ y.base
    solid : old.solid ≡ y.solid
    subclasses : old.subclasses ≡ y.subclasses
    places : old.places ≡ y.places

  was : (d : ℕ) (y : StoredClass) → slice_get (set kept c changed) d ≡ Some y → Was d y
  unfolding changed
  was d y e = elim (get-set_cases kept c changed d y e) [
    | inl r ↦ record {
      old = k;
      there = ap (slice_get kept) r.0 ∙ there kept c k within at;
      number = ap (λ (x : StoredClass). x.number) r.1;
      mro = ap (λ (x : StoredClass). x.mro) r.1;
      slots = ap (λ (x : StoredClass). x.slots) r.1;
      base = ap (λ (x : StoredClass). x.base) r.1;
      solid = ap (λ (x : StoredClass). x.solid) r.1;
      subclasses = ap (λ (x : StoredClass). x.subclasses) r.1;
      places = ap (λ (x : StoredClass). x.places) r.1;
    }
    | inr r ↦ record { old = y; there = r.1; number = refl; mro = refl; slots = refl; base = refl; solid = refl; subclasses = refl; places = refl }
  ]

  old-lin : (d : ℕ) (y : StoredClass) (w : Was d y) → lin (classes_of kept) y.number ≡ Some y.mro
  old-lin d y w = ap (lin (classes_of kept)) (sym w.number) ∙ ok.mro d w.old w.there ∙ ap Some w.mro

  new-lin : (d : ℕ) (y : StoredClass) (w : Was d y) → lin new y.number ≡ Some y.mro
  unfolding new
  new-lin d y w = lin-edited g (classes_of kept) k.number y.number ∙ old-lin d y w

  old-slots : (d : ℕ) (y : StoredClass) (w : Was d y) → y.slots ≡ entries table_keys natives_of (classes_of kept) y.number
  old-slots d y w = sym w.slots ∙ ok.slots d w.old w.there ∙ ap (entries table_keys natives_of (classes_of kept)) w.number

  pub lines-changed : HasLines (set kept c (record k { attrs = g k.attrs }))
  unfolding changed new
  lines-changed = record { ascending = ap is_ascending plain-changed ∙ (sound-edited g (classes_of kept) k.number ok.sound).ascending; mro = λ d y e. ap (λ t. lin t y.number) plain-changed ∙ new-lin d y (was d y e) }

  near-one : (d : ℕ) (y : StoredClass) (w : Was d y) → IsNear new n y
  unfolding new
  near-one d y w = record {
    count = ap length (old-slots d y w) ∙ length-entries (classes_of kept) y.number;
    others = λ s h.
        ap (λ ys. slice_get ys (place_of s)) (old-slots d y w)
        ∙ entries-at (classes_of kept) y.number (place_of s) s (slot-at_place s)
        ∙ ap Some (sym (entry-other g (classes_of kept) k.number n touches y.number s h));
  }

  pub near-changed : AreNear n k.number (set kept c (record k { attrs = g k.attrs }))
  unfolding changed new
  near-changed = λ d y e h. let P : Classes PyStrInterned → Type 0 = λ t. IsNear t n y in subst P (sym plain-changed) (near-one d y (was d y e))

  module _ (final : List StoredClass) (r : IsRefreshed k.number (set kept c (record k { attrs = g k.attrs })) final) where
    pub plain-final : classes_of final ≡ with_changed (edited g) (classes_of kept) k.number
    unfolding changed new
    plain-final = plain-refreshed k.number (set kept c changed) final r ∙ plain-changed

    record IsNow (x : StoredClass) : Type 0 where
      mro : lin new x.number ≡ Some x.mro
      slots : x.slots ≡ entries table_keys natives_of new x.number
      base : base new x.number ≡ x.base
      solid : solid new x.number ≡ x.solid
      subclasses : x.subclasses ≡ subclasses new x.number
      places : place_count new x.number ≡ Some x.places

    -- what the class has in the end
    common : (d : ℕ) (y x : StoredClass) (w : Was d y) → y.number ≡ x.number → y.mro ≡ x.mro → y.base ≡ x.base → y.solid ≡ x.solid → y.subclasses ≡ x.subclasses → y.places ≡ x.places → x.slots ≡ entries table_keys natives_of new x.number → IsNow x
    unfolding new
    common d y x w i m b s c' p h =
        let e : w.old.number ≡ x.number = w.number ∙ i in
        record {
          mro = ap (lin new) (sym i) ∙ new-lin d y w ∙ ap Some m;
          slots = h;
          base = base-edited g (classes_of kept) k.number x.number ∙ ap (base (classes_of kept)) (sym e) ∙ ok.base d w.old w.there ∙ w.base ∙ b;
          solid = solid-edited g (classes_of kept) k.number x.number ∙ ap (solid (classes_of kept)) (sym e) ∙ ok.solid d w.old w.there ∙ w.solid ∙ s;
          subclasses = sym c' ∙ sym w.subclasses ∙ ok.subclasses d w.old w.there ∙ ap (subclasses (classes_of kept)) e ∙ sym (subclasses-edited g (classes_of kept) k.number x.number);
          places =
              ap (place_count new) (sym i)
              ∙ count-edited g (classes_of kept) k.number y.number y.mro (old-lin d y w)
              ∙ ap (place_count (classes_of kept)) (sym w.number)
              ∙ ok.places d w.old w.there
              ∙ ap Some (w.places ∙ p);
        }

    anew : (d : ℕ) (y x : StoredClass) (w : Was d y) (b : Bool) → has y.mro k.number ≡ b → cond b (settled new y) y ≡ x → IsNow x
    unfolding new
    anew d y x w true test e =
        common d y x w (ap (λ (z : StoredClass). z.number) e) (ap (λ (z : StoredClass). z.mro) e) (ap (λ (z : StoredClass). z.base) e) (ap (λ (z : StoredClass). z.solid) e) (ap (λ (z : StoredClass). z.subclasses) e) (ap (λ (z : StoredClass). z.places) e) (ap (λ (z : StoredClass). z.slots) (sym e) ∙ ap (λ (z : StoredClass). entries table_keys natives_of new z.number) e)
    anew d y x w false test e =
        common d y x w (ap (λ (z : StoredClass). z.number) e) (ap (λ (z : StoredClass). z.mro) e) (ap (λ (z : StoredClass). z.base) e) (ap (λ (z : StoredClass). z.solid) e) (ap (λ (z : StoredClass). z.subclasses) e) (ap (λ (z : StoredClass). z.places) e) (
        ap (λ (z : StoredClass). z.slots) (sym e)
        ∙ old-slots d y w
        ∙ sym (entries-away g (classes_of kept) k.number y.number y.mro (old-lin d y w) test)
        ∙ ap (λ (z : StoredClass). entries table_keys natives_of new z.number) e
        )

    all : (d : ℕ) (x : StoredClass) → slice_get final d ≡ Some x → IsNow x
    unfolding changed new
    all d x e =
        let mid = set kept c changed in
        let l : d < length mid = let a = slice_get_within final d x e in let b = r.count in omega arith in
        let y = get_or mid d x in
        let h : slice_get mid d ≡ Some y = slice_get-get_or mid d x l in
        let q : refreshed_one (classes_of mid) k.number y ≡ x = let z = r.at d y h in cc in
        anew d y x (was d y h) (has y.mro k.number) refl (ap (λ (t : Classes PyStrInterned). refreshed_one t k.number y) (sym plain-changed) ∙ q)

    pub coherent-final : IsCoherent final
    unfolding changed new
    coherent-final = record {
      mro = λ d x e. ap (λ t. lin t x.number) plain-final ∙ (all d x e).mro;
      slots = λ d x e. (all d x e).slots ∙ ap (λ t. entries table_keys natives_of t x.number) (sym plain-final);
      base = λ d x e. ap (λ t. base t x.number) plain-final ∙ (all d x e).base;
      solid = λ d x e. ap (λ t. solid t x.number) plain-final ∙ (all d x e).solid;
      subclasses = λ d x e. (all d x e).subclasses ∙ ap (λ t. subclasses t x.number) (sym plain-final);
      places = λ d x e. ap (λ t. place_count t x.number) plain-final ∙ (all d x e).places;
      sound = subst AreSound (sym plain-final) (sound-edited g (classes_of kept) k.number ok.sound);
      attrs = subst (λ t. All (λ k. AreNamesDistinct k.attrs) t) (sym plain-final) (all-edited g (classes_of kept) k.number n touches ok.attrs);
    }

none-of : (o : Option PyObjectRef) → is_some o ≡ false → o ≡ None
none-of None e = refl
none-of (Some v) e = cc

-- a name that is not there is not taken out
pub untaken : (kept : List StoredClass) (c : ℕ) (k : StoredClass) → k ≡ get_or kept c k → (n : PyStrInterned) → is_some (value_of (λ j. is_same_name j n) k.attrs) ≡ false → set kept c (record k { attrs = without_key is_same_name k.attrs n }) ≡ kept
untaken kept c k at n e =
    ap (λ (ys : Attrs). set kept c (record k { attrs = ys })) (taken-absent n k.attrs (none-of (value_of (λ j. is_same_name j n) k.attrs) e))
    ∙ ap (set kept c) at
    ∙ set-get_or kept c k
