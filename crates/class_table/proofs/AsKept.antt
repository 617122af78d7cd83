-- What is kept is read.
use Rattle.class_table.proofs.Below.{ℕ, true, List, Some, Option, sym, ap, subst, ◌∙◌, slice_get, option_and_then, SlotId, SlotEntry, place_of, sort_of, Includes, is_class, lin, subclasses, base, solid, entry, slot, read_along, natives_of, lin-classes, table_keys, StoredClass, IsHere, classes_of, IsCoherent, slot-at_place}
use Rattle.std.proofs.Common.{◌≡◌}
use Rattle.class_table.proofs.Refreshed.{entries-at}

module _ (kept : List StoredClass) (ok : IsCoherent kept) (c : ℕ) (k : StoredClass) (here : IsHere kept c k) where
  pub entry-kept : (s : SlotId) → option_and_then (λ e. e) (slice_get k.slots (place_of s)) ≡ entry table_keys natives_of (classes_of kept) c s
  entry-kept s =
      ap (λ ys. option_and_then (λ (e : Option SlotEntry). e) (slice_get ys (place_of s))) (ok.slots here.place k here.at)
      ∙ ap (option_and_then (λ (e : Option SlotEntry). e)) (entries-at (classes_of kept) k.number (place_of s) s (slot-at_place s))
      ∙ ap (λ n. entry table_keys natives_of (classes_of kept) n s) here.number

  pub line-kept : lin (classes_of kept) c ≡ Some k.mro
  line-kept = ap (lin (classes_of kept)) (sym here.number) ∙ ok.mro here.place k here.at

  pub base-kept : base (classes_of kept) c ≡ k.base
  base-kept = ap (base (classes_of kept)) (sym here.number) ∙ ok.base here.place k here.at

  pub solid-kept : solid (classes_of kept) c ≡ k.solid
  solid-kept = ap (solid (classes_of kept)) (sym here.number) ∙ ok.solid here.place k here.at

  pub subclasses-kept : k.subclasses ≡ subclasses (classes_of kept) c
  subclasses-kept = ok.subclasses here.place k here.at ∙ ap (subclasses (classes_of kept)) here.number

  pub line-within : (line : List ℕ) → line ≡ k.mro → (x : ℕ) → Includes line x → is_class (classes_of kept) x ≡ true
  line-within line e x h = let P : List ℕ → Type 0 = λ l. Includes l x in lin-classes (classes_of kept) c k.mro x line-kept (subst P e h)

  pub slot-kept : (s : SlotId) (line : List ℕ) → line ≡ k.mro → read_along (entry table_keys natives_of (classes_of kept)) (sort_of s) c line s ≡ slot table_keys natives_of (classes_of kept) c s
  slot-kept s line e =
      ap (λ l. read_along (entry table_keys natives_of (classes_of kept)) (sort_of s) c l s) e
      ∙ sym (ap (option_and_then (λ l. read_along (entry table_keys natives_of (classes_of kept)) (sort_of s) c l s)) line-kept)
