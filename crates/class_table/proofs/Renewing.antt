-- The table after other bases of a class and all that follows from them were put in place.
use Rattle.class_table.proofs.Below.{ℕ, Bool, true, false, cond, List, [], zero, suc, map, length, get_or, set, Some, None, inl, inr, refl, sym, ap, subst, ◌∙◌, arith, slice_get, option_map, All, false≢true, map-set, length-set, slice_get-map, slice_get-get_or, slice_get_within, PyStrInterned, AreNamesDistinct, has, Includes, Class, Classes, is_class, lin, subclasses, is_ascending, base, solid, place_count, entries, natives_of, with_bases, AreSound, Includes-equal, Includes-map, Decides-has, at-changed_away, entries-along, table_keys, StoredClass, class_of, number_at, classes_of, HasLines, IsCoherent, settled, descendants, AreRanked, line_length, line_places, line_kept, places_kept, is_ranked, AreSettled, Ranked, AreThere, refused_rebase, Renewed, AreAffected, AreRenewed, AreSwapped, with_renewed, lin-held, member_count-kept}
use Rattle.std.proofs.Common.{◌≡◌, ◌<◌, ◌≤◌, ◌∷◌, ◌⊎◌}
use Rattle.class_table.proofs.Found.{number-within, read-number}
use Rattle.class_table.proofs.Distinct.{all-changed}
use Rattle.class_table.proofs.Places.{get-set_cases, same-maps}
use Rattle.class_table.proofs.Refreshed.{there, length-entries}
use Rattle.class_table.proofs.Changed.{with_changed-set}
use Rattle.class_table.proofs.Each.{IsSoOf, coherent-each}
use Rattle.class_table.proofs.Counts.{count-agrees}
use Rattle.class_table.proofs.Trials.{is-there, kept-away}
use Rattle.class_table.proofs.Listed.{unlisted}
use Rattle.class_table.proofs.Descended.{Includes-at, Includes-index, places-few}
use Rattle.class_table.proofs.Rebased.{line-away}
use Rattle.class_table.proofs.Passed.{sound-passed, solid-passed, base-away_passed}

some-at : {A : Type 0} (xs : List A) (i : ℕ) → i < length xs → (x : A) × (slice_get xs i ≡ Some x)
some-at [] i l = absurd (omega arith)
some-at (x ∷ xs) zero l = (x, refl)
some-at (x ∷ xs) (suc i) l = some-at xs i (omega arith)

none-has : (xs : List ℕ) (x : ℕ) → (Includes xs x → ⊥) → has xs x ≡ false
none-has xs x h = go (has xs x) refl
  where
    go : (b : Bool) → has xs x ≡ b → b ≡ false
    go false e = refl
    go true e = absurd (h ((Decides-has xs x).0 e))

module _ (kept : List StoredClass) (ok : IsCoherent kept) (c : ℕ) (bs : List ℕ) (here : is_class (classes_of kept) c ≡ true) (held : AreThere (classes_of kept) bs) (passed : refused_rebase (classes_of kept) c bs ≡ None) (touched : List ℕ) (affected : AreAffected kept c bs touched) (renewed : List Renewed) (are : AreRenewed kept c bs touched renewed) (at : ℕ) (numbered : number_at kept at ≡ Some c) (k : StoredClass) (is : k ≡ get_or kept at k) where
  u : Classes PyStrInterned
  u = with_bases (classes_of kept) c bs

  first : List StoredClass
  first = set kept at (record k { bases = bs })

  within : at < length kept
  within = number-within kept at c numbered

  called : k.number ≡ c
  called = read-number kept at c k numbered is

  plain-first : classes_of first ≡ u
  unfolding u first
  plain-first =
      map-set class_of kept at (record k { bases = bs })
      ∙ sym (with_changed-set (λ (j : Class PyStrInterned). record j { bases = bs }) 0 (classes_of kept) at (class_of k) ok.sound.ascending (slice_get-map class_of kept at ∙ ap (option_map class_of) (there kept at k within is)))
      ∙ ap (λ n. with_bases (classes_of kept) n bs) called

  sound-now : AreSound u
  unfolding u
  sound-now = sound-passed (classes_of kept) ok.sound c bs here held passed

  module _ (mid : List StoredClass) (swapped : AreSwapped touched renewed (set kept at (record k { bases = bs })) mid) where
    -- what a class had before, and what is so of what it has now
    record Was (j : ℕ) (y : StoredClass) : Type 0 where
      old : StoredClass
      there : slice_get kept j ≡ Some old
      number : y.number ≡ old.number
      slots : y.slots ≡ old.slots
      solid : y.solid ≡ old.solid
      mro : lin u old.number ≡ Some y.mro
      base : base u old.number ≡ y.base
      subclasses : y.subclasses ≡ subclasses u old.number
      places : place_count u old.number ≡ Some y.places

    long : (j : ℕ) (y : StoredClass) → slice_get mid j ≡ Some y → j < length kept
    long j y e =
        let a = slice_get_within mid j y e in
        let b = swapped.count in
        let d = length-set kept at (record k { bases = bs }) in
        omega (arith, a, b, d)

    -- a class at one of the places
    was-renewed : (j n : ℕ) (y z old : StoredClass) → slice_get touched n ≡ Some j → slice_get mid j ≡ Some y → slice_get (set kept at (record k { bases = bs })) j ≡ Some z → slice_get kept j ≡ Some old → z.number ≡ old.number → z.slots ≡ old.slots → z.solid ≡ old.solid → Was j y
    unfolding u
    was-renewed j n y z old p e f q num s d =
        let l = slice_get_within touched n j p in
        let count = are.count in
        let r = some-at renewed n (omega (arith, l, count)) in
        let so = are.at n j old r.0 p q r.1 in
        let x = swapped.at n j z r.0 p f r.1 in
        let w : y ≡ with_renewed r.0 z = cc in
        record {
          old = old;
          there = q;
          number = ap (λ (v : StoredClass). v.number) w ∙ num;
          slots = ap (λ (v : StoredClass). v.slots) w ∙ s;
          solid = ap (λ (v : StoredClass). v.solid) w ∙ d;
          mro = so.mro ∙ ap Some (sym (ap (λ (v : StoredClass). v.mro) w));
          base = so.base ∙ sym (ap (λ (v : StoredClass). v.base) w);
          subclasses = ap (λ (v : StoredClass). v.subclasses) w ∙ so.subclasses;
          places = so.places ∙ ap Some (sym (ap (λ (v : StoredClass). v.places) w));
        }

    -- a class at none of them does not derive from the changed one, and is none of its bases, old or new
    underived : (j : ℕ) (old : StoredClass) → (Includes touched j → ⊥) → slice_get kept j ≡ Some old → has old.mro c ≡ false
    underived j old h q = go (has old.mro c) refl
      where
        go : (b : Bool) → has old.mro c ≡ b → b ≡ false
        go false d = refl
        go true d = absurd (h (affected.derived j old q d))

    was-away : (j : ℕ) (y old : StoredClass) → (Includes touched j → ⊥) → slice_get mid j ≡ Some y → slice_get kept j ≡ Some old → y ≡ old → Was j y
    unfolding u
    was-away j y old h e q same =
        let no = underived j old h q in
        let line = kept-away kept ok c bs j old q no in
        let apart : old.number ≡ c → ⊥ = λ w. false≢true (sym no ∙ (Decides-has old.mro c).1 (Includes-equal old.mro old.number c w (lin-held (classes_of kept) old.number old.mro (ok.mro j old q)))) in
        record {
          old = old;
          there = q;
          number = ap (λ (v : StoredClass). v.number) same;
          slots = ap (λ (v : StoredClass). v.slots) same;
          solid = ap (λ (v : StoredClass). v.solid) same;
          mro = line ∙ ap Some (sym (ap (λ (v : StoredClass). v.mro) same));
          base = base-away_passed (classes_of kept) ok.sound c bs here held passed old.number apart ∙ ok.base j old q ∙ sym (ap (λ (v : StoredClass). v.base) same);
          subclasses = ap (λ (v : StoredClass). v.subclasses) same
              ∙ ok.subclasses j old q
              ∙ sym (unlisted c bs old.number kept ok.sound.ascending (λ i m f num. none-has bs old.number (λ w. h (affected.later j old q w)) ∙ sym (none-has m.bases old.number (λ w. h (affected.earlier j i old m q f num w)))));
          places = count-agrees (with_bases (classes_of kept) c bs) (classes_of kept) old.number old.mro line (ok.mro j old q) (λ x g. member_count-kept (λ (i : Class PyStrInterned). record i { bases = bs }) (λ i. refl) (classes_of kept) c (λ i. refl) x)
              ∙ ok.places j old q
              ∙ ap Some (sym (ap (λ (v : StoredClass). v.places) same));
        }

    was-of : (j : ℕ) (y z old : StoredClass) → slice_get mid j ≡ Some y → slice_get (set kept at (record k { bases = bs })) j ≡ Some z → slice_get kept j ≡ Some old → (z ≡ old) ⊎ (has old.mro c ≡ true) → z.number ≡ old.number → z.slots ≡ old.slots → z.solid ≡ old.solid → Was j y
    was-of j y z old e f q either num s d = go (has touched j) refl
      where
        go : (b : Bool) → has touched j ≡ b → Was j y
        go true w = let n = Includes-index touched j ((Decides-has touched j).0 w) in was-renewed j n.0 y z old n.1 e f q num s d
        go false w =
            let out : Includes touched j → ⊥ = λ i. false≢true (sym w ∙ (Decides-has touched j).1 i) in
            elim either [
              | inl same ↦ let stays = swapped.away j z out f in was-away j y old out e q (let v : y ≡ z = cc in v ∙ same)
              | inr derives ↦ absurd (out (affected.derived j old q derives))
            ]

    was : (j : ℕ) (y : StoredClass) → slice_get mid j ≡ Some y → Was j y
    was j y e =
        let l = long j y e in
        let d = length-set kept at (record k { bases = bs }) in
        let z = some-at (set kept at (record k { bases = bs })) j (omega (arith, l, d)) in
        elim (get-set_cases kept at (record k { bases = bs }) j z.0 z.1) [
          | inl p ↦
              let own = there kept at k within is in
              was-of j y z.0 k e z.1 (ap (slice_get kept) p.0 ∙ own) (inr ((Decides-has k.mro c).1 (Includes-equal k.mro k.number c called (lin-held (classes_of kept) k.number k.mro (ok.mro at k own))))) (ap (λ (v : StoredClass). v.number) (sym p.1)) (ap (λ (v : StoredClass). v.slots) (sym p.1)) (ap (λ (v : StoredClass). v.solid) (sym p.1))
          | inr p ↦ was-of j y z.0 z.0 e z.1 p.1 (inl refl) refl refl refl
        ]

    plain-mid : classes_of mid ≡ u
    unfolding first
    plain-mid = same-maps class_of (set kept at (record k { bases = bs })) mid swapped.count (λ j z e. plain-of j z e (has touched j) refl) ∙ plain-first
      where
        plain-of : (j : ℕ) (z : StoredClass) → slice_get (set kept at (record k { bases = bs })) j ≡ Some z → (b : Bool) → has touched j ≡ b → (y : StoredClass) × (slice_get mid j ≡ Some y) × (class_of y ≡ class_of z)
        plain-of j z e true w =
            let n = Includes-index touched j ((Decides-has touched j).0 w) in
            let l = slice_get_within touched n.0 j n.1 in
            let count = are.count in
            let r = some-at renewed n.0 (omega (arith, l, count)) in
            (with_renewed r.0 z, swapped.at n.0 j z r.0 n.1 e r.1, refl)
        plain-of j z e false w = (z, swapped.away j z (λ i. false≢true (sym w ∙ (Decides-has touched j).1 i)) e, refl)

    line-now : (j : ℕ) (y : StoredClass) → Was j y → lin u y.number ≡ Some y.mro
    line-now j y w = ap (lin u) w.number ∙ w.mro

    pub lines-mid : HasLines mid
    lines-mid = record { ascending = ap is_ascending plain-mid ∙ sound-now.ascending; mro = λ j y e. ap (λ t. lin t y.number) plain-mid ∙ line-now j y (was j y e) }

    pub full-mid : (j : ℕ) (y : StoredClass) → slice_get mid j ≡ Some y → length y.slots ≡ 73
    full-mid j y e =
        let w = was j y e in
        ap length w.slots ∙ ap length (ok.slots j w.old w.there) ∙ length-entries (classes_of kept) w.old.number

    -- a class that does not derive from the changed one keeps its slots
    slots-away : (j : ℕ) (y : StoredClass) → Was j y → has y.mro c ≡ false → y.slots ≡ entries table_keys natives_of u y.number
    unfolding u
    slots-away j y w h =
        w.slots
        ∙ ok.slots j w.old w.there
        ∙ ap (entries table_keys natives_of (classes_of kept)) (sym w.number)
        ∙ sym (entries-along table_keys natives_of u (classes_of kept) y.number y.mro (line-now j y w) (λ x q. at-changed_away (λ (i : Class PyStrInterned). record i { bases = bs }) (λ i. refl) (classes_of kept) c x (λ i. false≢true (sym h ∙ (Decides-has y.mro c).1 (Includes-equal y.mro x c i q)))))

    -- what is so of it
    so-now : (j : ℕ) (y x : StoredClass) → Was j y → x ≡ record y { slots = x.slots } → x.slots ≡ entries table_keys natives_of u y.number → IsSoOf u x
    unfolding u
    so-now j y x w same slots =
        let P : StoredClass → Type 0 = λ z. IsSoOf u z in
        subst P (sym same) (record {
          mro = line-now j y w;
          slots = slots;
          base = ap (base u) w.number ∙ w.base;
          solid = ap (solid u) w.number
              ∙ solid-passed (classes_of kept) ok.sound c bs here held passed w.old.number (is-there kept ok c bs j w.old w.there)
              ∙ ok.solid j w.old w.there
              ∙ sym w.solid;
          subclasses = w.subclasses ∙ ap (subclasses u) (sym w.number);
          places = ap (place_count u) w.number ∙ w.places;
        })

    module _ (ranked : List Ranked) (all : AreRanked kept c ranked) where
      -- a class that is not gone through does not derive from the changed one
      ranked-has : (j : ℕ) → Includes (map (λ (r : Ranked). r.place) ranked) j → is_ranked ranked j ≡ true
      ranked-has j h = (Decides-has (map (λ (r : Ranked). r.place) ranked) j).1 h

      old-away : (j : ℕ) (y : StoredClass) (w : Was j y) → is_ranked ranked j ≡ false → has w.old.mro c ≡ false
      old-away j y w h = go (has w.old.mro c) refl
        where
          go : (b : Bool) → has w.old.mro c ≡ b → b ≡ false
          go false d = refl
          go true d =
              let s = all.all j w.old w.there d in
              let in_all = Includes-equal (map (λ (r : Ranked). r.place) ranked) s.one.place j s.place (Includes-map (λ (r : Ranked). r.place) ranked s.one (Includes-at ranked s.index s.one s.at)) in
              absurd (false≢true (sym h ∙ ranked-has j in_all))

      line-stays : (j : ℕ) (y : StoredClass) (w : Was j y) → has w.old.mro c ≡ false → has y.mro c ≡ false
      unfolding u
      line-stays j y w h =
          let away = line-away (classes_of kept) c bs w.old.number w.old.mro (ok.mro j w.old w.there) h in
          let now = w.mro in
          let same : y.mro ≡ w.old.mro = cc in
          ap (λ xs. has xs c) same ∙ h

      pub away-mid : (j : ℕ) (y : StoredClass) → slice_get mid j ≡ Some y → is_ranked ranked j ≡ false → y.slots ≡ entries table_keys natives_of (classes_of mid) y.number
      away-mid j y e h =
          let w = was j y e in
          slots-away j y w (line-stays j y w (old-away j y w h)) ∙ ap (λ t. entries table_keys natives_of t y.number) (sym plain-mid)

      -- each place is that of a class
      pub inside-mid : (j : ℕ) (r : Ranked) → slice_get ranked j ≡ Some r → r.place < length mid
      inside-mid j r e =
          let d = all.within j r e in
          let l = slice_get_within kept r.place d.class d.at in
          let n = swapped.count in
          let m = length-set kept at (record k { bases = bs }) in
          omega (arith, l, n, m)

      -- so many places their new linearisations have
      pub places-mid : places_kept mid ranked ≤ line_places (with_bases (classes_of kept) c bs) (descendants (classes_of kept) c)
      unfolding u
      places-mid =
          let few = places-few kept ok c (with_bases (classes_of kept) c bs) (λ i. line_kept (slice_get mid i)) all.places all.found lined in
          let sums = all.sums (λ i. line_kept (slice_get mid i)) in
          omega (arith, few, sums)
        where
          lined : (i : ℕ) (x : StoredClass) → Includes all.places i → slice_get kept i ≡ Some x → line_kept (slice_get mid i) ≡ line_length (lin (with_bases (classes_of kept) c bs) x.number)
          lined i x h e =
              let l = slice_get_within kept i x e in
              let n = swapped.count in
              let m = length-set kept at (record k { bases = bs }) in
              let r = some-at mid i (omega (arith, l, n, m)) in
              let w = was i r.0 r.1 in
              let same : w.old ≡ x = let q = w.there in cc in
              ap line_kept r.1 ∙ sym (ap line_length w.mro) ∙ ap (λ (z : StoredClass). line_length (lin (with_bases (classes_of kept) c bs) z.number)) same

      module _ (final : List StoredClass) (settled_all : AreSettled (λ i k. is_ranked ranked i) mid final) (same_plain : classes_of final ≡ classes_of mid) where
        pub plain-final : classes_of final ≡ with_bases (classes_of kept) c bs
        unfolding u
        plain-final = same_plain ∙ plain-mid

        anew : (j : ℕ) (y x : StoredClass) → Was j y → (b : Bool) → is_ranked ranked j ≡ b → cond b (settled u y) y ≡ x → IsSoOf u x
        anew j y x w true test e =
            let slots : x.slots ≡ entries table_keys natives_of u y.number = ap (λ (z : StoredClass). z.slots) (sym e) in
            so-now j y x w (sym e ∙ ap (λ ss. record y { slots = ss }) (sym slots)) slots
        anew j y x w false test e =
            let slots : x.slots ≡ y.slots = ap (λ (z : StoredClass). z.slots) (sym e) in
            so-now j y x w (sym e ∙ ap (λ ss. record y { slots = ss }) (sym slots)) (slots ∙ slots-away j y w (line-stays j y w (old-away j y w test)))

        each : (j : ℕ) (x : StoredClass) → slice_get final j ≡ Some x → IsSoOf u x
        each j x e =
            let l : j < length mid = let a = slice_get_within final j x e in let b = settled_all.count in omega (arith, a, b) in
            let y = get_or mid j x in
            let h : slice_get mid j ≡ Some y = slice_get-get_or mid j x l in
            let q : cond (is_ranked ranked j) (settled (classes_of mid) y) y ≡ x = let z = settled_all.at j y h in cc in
            anew j y x (was j y h) (is_ranked ranked j) refl (ap (λ (t : Classes PyStrInterned). cond (is_ranked ranked j) (settled t y) y) (sym plain-mid) ∙ q)

        pub coherent-final : IsCoherent final
        unfolding u
        coherent-final =
            coherent-each final (λ j x e. let P : Classes PyStrInterned → Type 0 = λ t. IsSoOf t x in subst P (sym plain-final) (each j x e)) (subst AreSound (sym plain-final) sound-now) (subst (λ t. All (λ j. AreNamesDistinct j.attrs) t) (sym plain-final) (all-changed (λ j. AreNamesDistinct j.attrs) (λ j. record j { bases = bs }) (λ j d. d) (classes_of kept) c ok.attrs))
