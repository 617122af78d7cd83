-- The classes that a change of bases touches are found.
use Rattle.class_table.proofs.Below.{ℕ, true, List, Some, inl, inr, sym, ap, subst, ◌∙◌, slice_get, option_map, slice_get_within, Includes, Distinct, is_class, lin-bases, lin-classes, StoredClass, IsHere, classes_of, IsCoherent, AreDescendants, AreAffected}
use Rattle.std.proofs.Common.{◌≡◌}
use Rattle.class_table.specs.Descendants.{AreAdded}
use Rattle.class_table.proofs.Found.{number-within}
use Rattle.class_table.proofs.Trials.{own-bases}
use Rattle.class_table.proofs.Descended.{Includes-at, Includes-index, one-place}

added-stays : (kept : List StoredClass) (cs old new : List ℕ) → AreAdded kept cs old new → (i : ℕ) → Includes old i → Includes new i
added-stays kept cs old new a i h = let r = Includes-index old i h in Includes-at new r.0 i (a.stay r.0 i r.1)

module _ (kept : List StoredClass) (ok : IsCoherent kept) (c : ℕ) where
  -- the bases of a class that is kept are there
  pub bases-there : (m : StoredClass) → IsHere kept c m → (ds : List ℕ) → ds ≡ m.bases → (n : ℕ) → Includes ds n → is_class (classes_of kept) n ≡ true
  bases-there m here ds e n h =
      let line = ok.mro here.place m here.at in
      let P : List ℕ → Type 0 = λ xs. Includes xs n in
      lin-classes (classes_of kept) m.number m.mro n line (lin-bases (classes_of kept) m.number m.mro m.bases n line (own-bases kept ok c ds here.place m here.at) (subst P e h))

  pub affected-is : (bs : List ℕ) (m : StoredClass) → IsHere kept c m → (ds : List ℕ) → ds ≡ m.bases → (first mid last : List ℕ) → AreDescendants kept c first → AreAdded kept ds first mid → AreAdded kept bs mid last → Distinct last → AreAffected kept c bs last
  affected-is bs m here ds is first mid last are a b d = record {
    distinct = d;
    within = λ i h. elim (b.only i h) [
      | inl q ↦ elim (a.only i q) [
        | inl r ↦ let w = are.within i r in slice_get_within kept i w.class w.at
        | inr r ↦ number-within kept i r.0 r.2
      ]
      | inr q ↦ number-within kept i q.0 q.2
    ];
    derived = λ i k e h. added-stays kept bs mid last b i (added-stays kept ds first mid a i (are.all i k e h));
    later = λ i k e h. b.all i k.number h (ap (option_map (λ (z : StoredClass). z.number)) e);
    earlier = λ i j k n e f num h.
        let at : here.place ≡ j = one-place kept ok.sound.ascending here.place j m n here.at f (here.number ∙ sym num) in
        let same : m ≡ n = let g : slice_get kept j ≡ Some m = ap (slice_get kept) (sym at) ∙ here.at in cc in
        let P : List ℕ → Type 0 = λ xs. Includes xs k.number in
        added-stays kept bs mid last b i (a.all i k.number (subst P (ap (λ (z : StoredClass). z.bases) (sym same) ∙ sym is) h) (ap (option_map (λ (z : StoredClass). z.number)) e));
  }
