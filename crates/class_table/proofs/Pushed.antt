-- One more class, with what follows from its bases.
use Rattle.class_table.proofs.Below.{ℕ, List, [], length, get_or, set, Option, Some, None, true, cond, not, inl, inr, refl, sym, ap, subst, ◌∙◌, arith, slice_get, option_and_then, is_some, nat_lt, length-append, length-map, map-append, get_or_push, eq-eqb, ne_eqb, lt-ltb, All, PyStrInterned, PyTypeRef, AreNamesDistinct, has, Includes, Distinct, Class, Classes, is_class, lin, subclasses, is_ascending, limit, built_ins, is_empty, base, solid, best_of, members_in, place_count, entries, says_dict, has_its_dict, AreSound, natives_of, with_class, below-limit, ascending-push, lin-push, bases_of-last, subclasses-push, subclasses-new, entries-push, first_best-held, base-push, solid-push, solid-made, sound-made, bases-distinct, lin-value, best-value, solid-value, table_keys, StoredClass, class_of, classes_of, HasLines, IsCoherent, settled, IsBelow, IsBest, IsFresh, noted, AreThere, Follows}
use Rattle.std.proofs.Common.{◌≡◌, ◌+◌, ◌<◌, ◌≤◌, ◌∷◌, ◌++◌, IfSome, ◌||◌}
use Rattle.std.specs.Prelude.{eqb}
use Rattle.class_table.specs.Keys.{number_of}
use Rattle.class_table.proofs.Distinct.{all-added}
use Rattle.class_table.proofs.Counts.{count-push, count-last}
use Rattle.class_table.proofs.Places.{get-set_cases, get-push_cases}
use Rattle.class_table.proofs.Found.{class-here}
use Rattle.class_table.proofs.Refreshed.{plain-set}
use Rattle.class_table.proofs.AsKept.{line-kept}
use Rattle.class_table.proofs.Noted.{plain-noted, noting, was}

pub there-of : (t : Classes PyStrInterned) (n : ℕ) (bs : List ℕ) → IsBelow t n bs → AreThere t bs
there-of t n [] h = tt
there-of t n (b ∷ bs) h = h

pub each-there : (t : Classes PyStrInterned) (bs : List ℕ) → AreThere t bs → (b : ℕ) → Includes bs b → is_class t b ≡ true
each-there t [] l b h = absurd h
each-there t (c ∷ bs) l b (inl e) = ap (is_class t) (sym e) ∙ l.0
each-there t (c ∷ bs) l b (inr h) = each-there t bs l.1 b h

-- the best base is there
pub best-there : (t : Classes PyStrInterned) (bs : List ℕ) (o : Option PyTypeRef) → AreThere t bs → IsBest t bs o → IfSome o (λ b. is_class t b.0 ≡ true)
best-there t [] None l h = tt
best-there t [] (Some d) l h = absurd h
best-there t (b ∷ bs) None l h = tt
best-there t (b ∷ bs) (Some d) l h = each-there t (b ∷ bs) l d.0 (first_best-held t (solid t) (b ∷ bs) (b ∷ bs) d.0 h)

pub best-is : (t : Classes PyStrInterned) (bs : List ℕ) (o : Option PyTypeRef) → IsBest t bs o → best_of t bs ≡ number_of o
best-is t [] None h = refl
best-is t [] (Some d) h = absurd h
best-is t (b ∷ bs) None h = absurd h
best-is t (b ∷ bs) (Some d) h = h

best-some : (t : Classes PyStrInterned) (bs : List ℕ) (o : Option PyTypeRef) → IsBest t bs o → is_some (best_of t bs) ≡ not (is_empty bs)
best-some t [] None h = refl
best-some t [] (Some d) h = absurd h
best-some t (b ∷ bs) None h = absurd h
best-some t (b ∷ bs) (Some d) h = ap is_some h

root-of : (t : Classes PyStrInterned) (n : ℕ) (bs : List ℕ) → IsBelow t n bs → limit t ≤ n → is_empty bs ≡ eqb n 0
root-of t n [] h l = sym (eq-eqb n 0 h)
root-of t n (b ∷ bs) h l = let m = below-limit t b h.0 in sym (ne_eqb n 0 (λ e. omega arith))

module _ (kept : List StoredClass) (ok : IsCoherent kept) (new : Class PyStrInterned) (room : limit (classes_of kept) ≤ new.number) (below : IsBelow (classes_of kept) new.number new.bases) (best : Option PyTypeRef) (is_best : IsBest (classes_of kept) new.bases best) where
  grown : Classes PyStrInterned
  grown = with_class (classes_of kept) new

  held : (b : ℕ) → Includes new.bases b → is_class (classes_of kept) b ≡ true
  held = each-there (classes_of kept) new.bases (there-of (classes_of kept) new.number new.bases below)

  -- what is so of the further class
  pub line-given : (rest : List ℕ) → Follows (classes_of kept) new.bases rest → lin (with_class (classes_of kept) new) new.number ≡ Some (new.number ∷ rest)
  line-given rest f = lin-value (classes_of kept) new ok.sound room held (new.number ∷ rest) (f new.number room)

  pub count-given : (rest : List ℕ) → Follows (classes_of kept) new.bases rest → place_count (with_class (classes_of kept) new) new.number ≡ Some (length new.members + members_in (classes_of kept) rest)
  count-given rest f = count-last (classes_of kept) new rest room (line-given rest f)

  pub base-given : base (with_class (classes_of kept) new) new.number ≡ number_of best
  base-given = best-value (classes_of kept) new ok.sound room held ∙ best-is (classes_of kept) new.bases best is_best

  pub solid-given : solid (with_class (classes_of kept) new) new.number ≡ cond (nat_lt new.number built_ins || not (is_empty new.members)) (Some new.number) (option_and_then (solid (classes_of kept)) (number_of best))
  solid-given =
      solid-value (classes_of kept) new ok.sound room held
      ∙ ap (λ o. cond (nat_lt new.number built_ins || not (is_empty new.members)) (Some new.number) (option_and_then (solid (classes_of kept)) o)) (best-is (classes_of kept) new.bases best is_best)

  has-base : is_some (base (with_class (classes_of kept) new) new.number) ≡ not (is_empty new.bases)
  has-base = ap is_some (best-value (classes_of kept) new ok.sound room held) ∙ best-some (classes_of kept) new.bases best is_best

  has-solid : (bs : List ℕ) → new.bases ≡ bs → is_some (solid (with_class (classes_of kept) new) new.number) ≡ true
  has-solid [] e =
      let P : List ℕ → Type 0 = λ bs. IsBelow (classes_of kept) new.number bs in
      let zero : new.number ≡ 0 = subst P e below in
      ap is_some (solid-value (classes_of kept) new ok.sound room held ∙ ap (λ w. cond (w || not (is_empty new.members)) (Some new.number) (option_and_then (solid (classes_of kept)) (best_of (classes_of kept) new.bases))) (lt-ltb new.number built_ins (omega arith)))
  has-solid (b ∷ bs) e = solid-made (classes_of kept) new ok.sound room held (has-base ∙ ap (λ ds. not (is_empty ds)) e)

  module _ (stored : StoredClass) (fresh : IsFresh kept new stored) (d : StoredClass) where
    mid : List StoredClass
    mid = noted stored.bases stored.number kept

    called : stored.number ≡ new.number
    called = ap (λ (c : Class PyStrInterned). c.number) fresh.class

    above : stored.bases ≡ new.bases
    above = ap (λ (c : Class PyStrInterned). c.bases) fresh.class

    sound-given : says_dict (Some new) ≡ has_its_dict (classes_of kept) (Some new) → AreSound (with_class (classes_of kept) new)
    sound-given dict =
        let root = root-of (classes_of kept) new.number new.bases below room in
        sound-made (classes_of kept) new ok.sound room held root (ap is_some fresh.mro) (has-solid new.bases refl) (has-base ∙ ap not root) dict

    pub plain-attached : classes_of (noted stored.bases stored.number kept ++ stored ∷ []) ≡ with_class (classes_of kept) new
    plain-attached =
        map-append class_of (noted stored.bases stored.number kept) (stored ∷ [])
        ∙ ap (λ ys. ys ++ class_of stored ∷ []) (plain-noted stored.bases stored.number kept)
        ∙ ap (λ k. classes_of kept ++ k ∷ []) fresh.class

    pub length-mid : length (noted stored.bases stored.number kept) ≡ length kept
    length-mid = length-map kept (noting stored.bases stored.number)

    fresh-lin : lin grown stored.number ≡ Some stored.mro
    unfolding grown called
    fresh-lin = ap (lin grown) called ∙ fresh.mro

    old-lin : (i : ℕ) (k : StoredClass) → slice_get kept i ≡ Some k → lin grown k.number ≡ Some k.mro
    unfolding grown
    old-lin i k e = lin-push (classes_of kept) new k.number k.mro (ok.mro i k e)

    pub lines-attached : HasLines (noted stored.bases stored.number kept ++ stored ∷ [])
    unfolding grown mid
    lines-attached = record {
      ascending = ap is_ascending plain-attached ∙ ascending-push (classes_of kept) new ok.sound.ascending room;
      mro = λ i x e.
          ap (λ t. lin t x.number) plain-attached
          ∙ elim (get-push_cases mid stored i x e) [
            | inl a ↦ let w = was stored.bases stored.number kept i x a in ap (λ (z : StoredClass). lin grown z.number) (sym w.2) ∙ old-lin i w.0 w.1 ∙ ap (λ (z : StoredClass). Some z.mro) w.2
            | inr r ↦ ap (λ (z : StoredClass). lin grown z.number) (sym r.1) ∙ fresh-lin ∙ ap (λ (z : StoredClass). Some z.mro) r.1
          ];
    }

    pub last : (x : StoredClass) → get_or (noted stored.bases stored.number kept ++ stored ∷ []) (length kept) x ≡ stored
    last x = get_or_push (noted stored.bases stored.number kept) stored x (length kept) length-mid

    pub within-attached : length kept < length (noted stored.bases stored.number kept ++ stored ∷ [])
    within-attached = let a = length-append (noted stored.bases stored.number kept) (stored ∷ []) in let b = length-mid in omega (arith, a, b)

    -- the class that was put at the end is given its slots
    pub settled-at : (cur found : List StoredClass) (n : ℕ) → cur ≡ noted stored.bases stored.number kept ++ stored ∷ [] → n ≡ length kept → ((x : StoredClass) → found ≡ set cur n (settled (classes_of cur) (get_or cur n x))) → found ≡ set (noted stored.bases stored.number kept ++ stored ∷ []) (length kept) (settled (with_class (classes_of kept) new) stored)
    settled-at cur found n e size is =
        let all = noted stored.bases stored.number kept ++ stored ∷ [] in
        is stored
        ∙ ap (λ (ys : List StoredClass). set ys n (settled (classes_of ys) (get_or ys n stored))) e
        ∙ ap (λ (m : ℕ). set all m (settled (classes_of all) (get_or all m stored))) size
        ∙ ap (λ (z : StoredClass). set all (length kept) (settled (classes_of all) z)) (last stored)
        ∙ ap (λ (t : Classes PyStrInterned). set all (length kept) (settled t stored)) plain-attached

    record IsNow (x : StoredClass) : Type 0 where
      mro : lin grown x.number ≡ Some x.mro
      slots : x.slots ≡ entries table_keys natives_of grown x.number
      base : base grown x.number ≡ x.base
      solid : solid grown x.number ≡ x.solid
      subclasses : x.subclasses ≡ subclasses grown x.number
      places : place_count grown x.number ≡ Some x.places

    now-old : (i : ℕ) (k : StoredClass) → slice_get kept i ≡ Some k → IsNow (noting stored.bases stored.number k)
    unfolding grown called above
    now-old i k e =
        let l = ok.mro i k e in
        record {
          mro = old-lin i k e;
          slots = ok.slots i k e ∙ sym (entries-push table_keys natives_of (classes_of kept) new k.number k.mro l);
          base = base-push (classes_of kept) new k.number k.mro l ∙ ok.base i k e;
          solid = solid-push (classes_of kept) new k.number k.mro l ∙ ok.solid i k e;
          subclasses =
              ap (λ ys. ys ++ cond (has stored.bases k.number) (stored.number ∷ []) []) (ok.subclasses i k e)
              ∙ ap (λ bs. subclasses (classes_of kept) k.number ++ cond (has bs k.number) (stored.number ∷ []) []) above
              ∙ ap (λ n. subclasses (classes_of kept) k.number ++ cond (has new.bases k.number) (n ∷ []) []) called
              ∙ sym (subclasses-push (classes_of kept) new k.number);
          places = count-push (classes_of kept) new k.number k.mro l ∙ ok.places i k e;
        }

    all-lines : (c : ℕ) → is_class (classes_of kept) c ≡ true → (l : List ℕ) × (lin (classes_of kept) c ≡ Some l)
    all-lines c l = let h = class-here kept ok.sound.ascending c l in (h.0.mro, line-kept kept ok c h.0 h.1)

    now-fresh : (x : StoredClass) → settled grown stored ≡ x → IsNow x
    unfolding grown called
    now-fresh x e =
        let n : new.number ≡ x.number = sym called ∙ ap (λ (z : StoredClass). z.number) e in
        record {
          mro = ap (λ (z : StoredClass). lin grown z.number) (sym e) ∙ fresh-lin ∙ ap (λ (z : StoredClass). Some z.mro) e;
          slots = ap (λ (z : StoredClass). z.slots) (sym e) ∙ ap (λ (z : StoredClass). entries table_keys natives_of grown z.number) e;
          base = ap (base grown) (sym n) ∙ fresh.base ∙ ap (λ (z : StoredClass). z.base) e;
          solid = ap (solid grown) (sym n) ∙ fresh.solid ∙ ap (λ (z : StoredClass). z.solid) e;
          subclasses =
              ap (λ (z : StoredClass). z.subclasses) (sym e)
              ∙ fresh.subclasses
              ∙ sym (subclasses-new (classes_of kept) new ok.sound.ascending room all-lines held)
              ∙ ap (subclasses grown) n;
          places = ap (place_count grown) (sym n) ∙ fresh.places ∙ ap (λ (z : StoredClass). Some z.places) e;
        }

    module _ (final : List StoredClass) (is : final ≡ set (noted stored.bases stored.number kept ++ stored ∷ []) (length kept) (settled (with_class (classes_of kept) new) stored)) where
      pub plain-added : classes_of final ≡ with_class (classes_of kept) new
      plain-added =
          ap classes_of is ∙ plain-set (noted stored.bases stored.number kept ++ stored ∷ []) (length kept) stored (settled (with_class (classes_of kept) new) stored) within-attached (sym (last stored)) refl ∙ plain-attached

      now : (i : ℕ) (x : StoredClass) → slice_get final i ≡ Some x → IsNow x
      unfolding grown mid
      now i x e = elim (get-set_cases (mid ++ stored ∷ []) (length kept) (settled grown stored) i x (ap (λ ys. slice_get ys i) (sym is) ∙ e)) [
        | inl r ↦ now-fresh x r.1
        | inr r ↦
            elim (get-push_cases mid stored i x r.1) [
              | inl a ↦ let w = was stored.bases stored.number kept i x a in subst IsNow w.2 (now-old i w.0 w.1)
              | inr q ↦ absurd (r.0 (q.0 ∙ length-mid))
            ]
      ]

      pub coherent-added : says_dict (Some new) ≡ has_its_dict (classes_of kept) (Some new) → IsCoherent final
      unfolding grown
      coherent-added dict = record {
        mro = λ i x e. ap (λ t. lin t x.number) plain-added ∙ (now i x e).mro;
        slots = λ i x e. (now i x e).slots ∙ ap (λ t. entries table_keys natives_of t x.number) (sym plain-added);
        base = λ i x e. ap (λ t. base t x.number) plain-added ∙ (now i x e).base;
        solid = λ i x e. ap (λ t. solid t x.number) plain-added ∙ (now i x e).solid;
        subclasses = λ i x e. (now i x e).subclasses ∙ ap (λ t. subclasses t x.number) (sym plain-added);
        places = λ i x e. ap (λ t. place_count t x.number) plain-added ∙ (now i x e).places;
        sound = subst AreSound (sym plain-added) (sound-given dict);
        attrs = subst (λ t. All (λ k. AreNamesDistinct k.attrs) t) (sym plain-added) (all-added (classes_of kept) new ok.attrs fresh.attrs);
      }

-- the class as it is made, before it is put into the table
module _ (kept : List StoredClass) (ok : IsCoherent kept) (new : Class PyStrInterned) (room : limit (classes_of kept) ≤ new.number) (below : IsBelow (classes_of kept) new.number new.bases) (before : List StoredClass) (same : before ≡ kept) (stored : StoredClass) (h : IsFresh before new stored) where
  pub fresh-of : IsFresh kept new stored
  fresh-of = let P : List StoredClass → Type 0 = λ ys. IsFresh ys new stored in subst P same h

  pub bases-there : AreThere (classes_of kept) stored.bases
  bases-there = let P : List ℕ → Type 0 = λ bs. AreThere (classes_of kept) bs in subst P (sym (ap (λ (c : Class PyStrInterned). c.bases) fresh-of.class)) (there-of (classes_of kept) new.number new.bases below)

  pub bases-once : Distinct stored.bases
  bases-once =
      subst Distinct (sym (ap (λ (c : Class PyStrInterned). c.bases) fresh-of.class)) (bases-distinct (with_class (classes_of kept) new) new.number stored.mro new.bases fresh-of.mro (bases_of-last (classes_of kept) new room new.bases refl))

-- the same, step by step as the code goes
module _ (kept : List StoredClass) (ok : IsCoherent kept) (new : Class PyStrInterned) (room : limit (classes_of kept) ≤ new.number) (below : IsBelow (classes_of kept) new.number new.bases) (best : Option PyTypeRef) (is_best : IsBest (classes_of kept) new.bases best) (stored : StoredClass) (n : ℕ) (before items cur : List StoredClass) (size : n ≡ length kept) (same : before ≡ kept) (h : IsFresh before new stored) (put : items ≡ noted stored.bases stored.number kept ++ stored ∷ []) (is : cur ≡ items) where
  fresh : IsFresh kept new stored
  fresh = fresh-of kept ok new room below before same stored h

  attached : cur ≡ noted stored.bases stored.number kept ++ stored ∷ []
  attached = is ∙ put

  pub step-lines : HasLines cur
  step-lines = let P : List StoredClass → Type 0 = λ ys. HasLines ys in subst P (sym attached) (lines-attached kept ok new room below best is_best stored fresh stored)

  pub step-inside : n < length cur
  step-inside =
      let w = within-attached kept ok new room below best is_best stored fresh stored in
      let a = ap length attached in
      omega (arith, w, a, size)

  pub step-full : (x : StoredClass) → length (get_or cur n x).slots ≡ 73
  step-full x =
      ap (λ (k : StoredClass). length k.slots) (
      ap (λ (ys : List StoredClass). get_or ys n x) attached
      ∙ ap (λ (m : ℕ). get_or (noted stored.bases stored.number kept ++ stored ∷ []) m x) size
      ∙ last kept ok new room below best is_best stored fresh stored x
      )
      ∙ fresh.full

  pub step-done : says_dict (Some new) ≡ has_its_dict (classes_of kept) (Some new) → (final done : List StoredClass) → ((x : StoredClass) → done ≡ set cur n (settled (classes_of cur) (get_or cur n x))) → final ≡ done → IsCoherent final × (classes_of final ≡ with_class (classes_of kept) new)
  step-done dict final done says e =
      let all = e ∙ settled-at kept ok new room below best is_best stored fresh stored cur done n attached size says in (
        coherent-added kept ok new room below best is_best stored fresh stored final all dict,
        plain-added kept ok new room below best is_best stored fresh stored final all,
      )
