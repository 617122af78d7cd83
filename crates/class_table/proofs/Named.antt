-- A class that gets another name: all that is kept stays so.
use Rattle.class_table.proofs.Below.{ℕ, true, false, cond, eqb, List, [], map, length, get_or, set, inl, inr, refl, sym, ap, subst, ◌∙◌, nat_lt, option_map, All, map-set, slice_get-map, PyStrInterned, SlotId, AreNamesDistinct, all_slots, Text, has, Class, Classes, bases_of, lin, own_of, subclasses, has_members, is_solid, solid_within, solid, base, built_ins, is_name_of, is_heap_at, entry, entries, natives_of, with_class_name, AreSound, at-changed, length-changed, entry-agrees, solid_within-same, base-agrees, lin-kept, member_count-kept, sound-kept, table_keys, StoredClass, class_of, classes_of, IsCoherent}
use Rattle.std.proofs.Common.{◌≡◌, ◌<◌, ◌||◌, ◌∷◌}
use Rattle.class_table.proofs.Counts.{count-agrees}
use Rattle.class_table.proofs.Distinct.{all-changed}
use Rattle.class_table.proofs.Places.{get-set_cases}
use Rattle.class_table.proofs.Refreshed.{there}
use Rattle.class_table.proofs.Changed.{with_changed-set}
use Rattle.class_table.proofs.Each.{IsSoOf, each-of, coherent-each}

-- the class with the name
abbrev named : Text → Class PyStrInterned → Class PyStrInterned
named x k = record k { name = x }

subclasses-named : (x : Text) (t : Classes PyStrInterned) (c d : ℕ) → subclasses (with_class_name t c x) d ≡ subclasses t d
subclasses-named x [] c d = refl
subclasses-named x (k ∷ t) c d =
    elim (eqb k.number c) as (λ b. subclasses (cond b (named x k ∷ t) (k ∷ with_class_name t c x)) d ≡ subclasses (k ∷ t) d) [ true ↦ refl | false ↦ ap (λ ys. cond (has k.bases d) (k.number ∷ ys) ys) (subclasses-named x t c d) ]

module _ (x : Text) (t : Classes PyStrInterned) (c : ℕ) where
  u : Classes PyStrInterned
  u = with_class_name t c x

  lin-named : (d : ℕ) → lin u d ≡ lin t d
  unfolding u
  lin-named d = lin-kept (named x) (λ k. refl) t c (λ k. refl) (λ k. refl) d

  bases-named : (d : ℕ) → bases_of u d ≡ bases_of t d
  unfolding u
  bases-named d = at-changed (named x) (λ k. refl) (option_map (λ (k : Class PyStrInterned). k.bases)) (λ k. refl) t c d

  is_solid-named : (d : ℕ) → is_solid u d ≡ is_solid t d
  unfolding u
  is_solid-named d = ap (λ w. nat_lt d built_ins || w) (at-changed (named x) (λ k. refl) has_members (λ k. refl) t c d)

  solid-named : (d : ℕ) → solid u d ≡ solid t d
  unfolding u
  solid-named d =
      solid_within-same u t (λ z. Unit {0}) (λ z bs b p e h. tt) (λ z p. bases-named z) (λ z p. lin-named z) (λ z p. is_solid-named z) (length u) d tt
      ∙ ap (λ m. solid_within t m d) (length-changed (named x) (λ k. refl) t c)

  base-named : (d : ℕ) → base u d ≡ base t d
  base-named d =
      base-agrees u t (λ z. Unit {0}) (λ z bs b p e h. tt) (λ z p. bases-named z) (λ z p. lin-named z) (λ z p. is_solid-named z) d tt (λ b p. solid-named b)

  entry-named : (d : ℕ) (s : SlotId) → entry table_keys natives_of u d s ≡ entry table_keys natives_of t d s
  unfolding u
  entry-named d s =
      entry-agrees table_keys table_keys natives_of s u t (λ z. Unit {0}) (λ z l y p f h. tt) (λ z p. lin-named z) (λ z p. at-changed (named x) (λ k. refl) is_heap_at (λ k. refl) t c z) (λ z p. at-changed (named x) (λ k. refl) (own_of (is_name_of table_keys s)) (λ k. refl) t c z) d tt

  entries-named : (d : ℕ) → entries table_keys natives_of u d ≡ entries table_keys natives_of t d
  entries-named d = λ i. map (λ s. entry-named d s i) all_slots

  so-named : (k : StoredClass) → IsSoOf t k → IsSoOf (with_class_name t c x) k
  unfolding u
  so-named k ok = record {
    mro = lin-named k.number ∙ ok.mro;
    slots = ok.slots ∙ sym (entries-named k.number);
    base = base-named k.number ∙ ok.base;
    solid = solid-named k.number ∙ ok.solid;
    subclasses = ok.subclasses ∙ sym (subclasses-named x t c k.number);
    places = count-agrees u t k.number k.mro (lin-named k.number ∙ ok.mro) ok.mro (λ z q. member_count-kept (named x) (λ j. refl) t c (λ j. refl) z) ∙ ok.places;
  }

module _ (kept : List StoredClass) (ok : IsCoherent kept) (i : ℕ) (k : StoredClass) (within : i < length kept) (at : k ≡ get_or kept i k) (x : Text) where
  pub plain-named : classes_of (set kept i (record k { name = x })) ≡ with_class_name (classes_of kept) k.number x
  plain-named =
      map-set class_of kept i (record k { name = x })
      ∙ sym (with_changed-set (named x) 0 (classes_of kept) i (class_of k) ok.sound.ascending (slice_get-map class_of kept i ∙ ap (option_map class_of) (there kept i k within at)))

  pub coherent-named : IsCoherent (set kept i (record k { name = x }))
  coherent-named =
      let v = with_class_name (classes_of kept) k.number x in
      coherent-each (set kept i (record k { name = x })) (λ d y e.
      let P : Classes PyStrInterned → Type 0 = λ t. IsSoOf t y in
      subst P (sym plain-named) (elim (get-set_cases kept i (record k { name = x }) d y e) [
        | inl r ↦
            let q = so-named x (classes_of kept) k.number k (each-of kept ok i k (there kept i k within at)) in
            let s : IsSoOf v (record k { name = x }) = record { mro = q.mro; slots = q.slots; base = q.base; solid = q.solid; subclasses = q.subclasses; places = q.places } in
            let Q : StoredClass → Type 0 = λ z. IsSoOf v z in
            subst Q r.1 s
        | inr r ↦ so-named x (classes_of kept) k.number y (each-of kept ok d y r.1)
      ])) (subst AreSound (sym plain-named) (sound-kept (named x) (λ j. refl) (classes_of kept) k.number (λ j. refl) (λ j. refl) (λ j. refl) (λ j. refl) ok.sound)) (subst (λ t. All (λ j. AreNamesDistinct j.attrs) t) (sym plain-named) (all-changed (λ j. AreNamesDistinct j.attrs) (named x) (λ j d. d) (classes_of kept) k.number ok.attrs))
