-- The best base that is found base by base, and why there is none.
use Rattle.class_table.proofs.Below.{ℕ, Bool, true, false, cond, not, List, [], Option, Some, None, Result, Ok, Err, true≢false, refl, sym, ap, subst, ◌∙◌, append-nil, append_assoc, is_some, option_and_then, option_or, Cause, EmptyBases, NotBaseType, LayoutConflict, PyTypeRef, Classes, class_at, is_class, lin, is_sub, is_along, solid, best_of, AreSound, some-of, lin-member, lin-within, solid-held, best-one_some, sub-itself, best-stays, best-moves, is_base_at, most_derived, are_apart, refused_base, refused_after, refused_layout, AreThere, is_under, better_of, better, next_best, then_best, best_along, number_best}
use Rattle.std.proofs.Common.{◌≡◌, ◌||◌, ◌∷◌, ◌++◌}

-- a class that is not there derives from none
pub none-derives : {K : Type 0} (t : Classes K) (c d : ℕ) → class_at t c ≡ None → is_sub t c d ≡ false
none-derives t c d e = go (lin t c) refl
  where
    go : (o : Option (List ℕ)) → lin t c ≡ o → is_along d o ≡ false
    go None h = refl
    go (Some line) h = let l = lin-within t c line h in absurd (true≢false (sym l ∙ ap is_some e))

module _ {K : Type 0} (t : Classes K) where
  -- what was found so far
  Started : Option ℕ → List ℕ → Type 0
  Started None before = before ≡ []
  Started (Some a) before = (best_of t before ≡ Some a) × (is_class t a ≡ true)

  Steps : Result ℕ Cause → List ℕ → ℕ → Type 0
  Steps (Ok d) before b = (refused_base t before b ≡ None) × Started (Some d) (before ++ b ∷ [])
  Steps (Err c) before b = refused_base t before b ≡ Some c

  Tells : Result (Option ℕ) Cause → List ℕ → List ℕ → Type 0
  Tells (Ok o) before bs = (best_of t (before ++ bs) ≡ o) × (refused_after t before bs ≡ None)
  Tells (Err c) before bs = refused_after t before bs ≡ Some c

  shift : (r : Result (Option ℕ) Cause) (before : List ℕ) (b : ℕ) (bs : List ℕ) → refused_base t before b ≡ None → Tells r (before ++ b ∷ []) bs → Tells r before (b ∷ bs)
  unfolding Tells
  shift (Ok o) before b bs e h =
      (ap (best_of t) (sym (append_assoc before (b ∷ []) bs)) ∙ h.0, ap (λ o. option_or o (refused_after t (before ++ b ∷ []) bs)) e ∙ h.1)
  shift (Err c) before b bs e h = ap (λ o. option_or o (refused_after t (before ++ b ∷ []) bs)) e ∙ h

  some-along : (bs : List ℕ) (a : ℕ) → best_along t (Some a) bs ≡ Ok None → ⊥
  some-along [] a e = cc
  some-along (b ∷ bs) a e = go (next_best t (Some a) b) (some-along bs) e
    where
      go : (r : Result ℕ Cause) → ((d : ℕ) → best_along t (Some d) bs ≡ Ok None → ⊥) → then_best (λ d. best_along t (Some d) bs) r ≡ Ok None → ⊥
      go (Ok d) more e = more d e
      go (Err c) more e = cc

  module _ (ok : AreSound t) where
    pub found : (c : ℕ) → is_class t c ≡ true → (d : ℕ) × (solid t c ≡ Some d) × (is_sub t d d ≡ true)
    found c l =
        let s = some-of (solid t c) (ok.solid c l) in
        let line = some-of (lin t c) (ok.order c l) in
        let m = lin-member t c line.0 s.0 line.1 (solid-held t c line.0 s.0 line.1 s.1) in
        (s.0, s.1, sub-itself t s.0 m.0 m.1)

    allowed : (before : List ℕ) (b : ℕ) (w s : Option ℕ) → is_base_at (class_at t b) ≡ true → most_derived t before ≡ w → solid t b ≡ s → are_apart t w s ≡ false → refused_base t before b ≡ None
    allowed before b w s e m q f =
        ap (λ v. cond v (cond (are_apart t (most_derived t before) (solid t b)) (Some LayoutConflict) None) (Some NotBaseType)) e
        ∙ ap (λ o. cond (are_apart t o (solid t b)) (Some LayoutConflict) None) m
        ∙ ap (λ o. cond (are_apart t w o) (Some LayoutConflict) None) q
        ∙ ap (λ v. cond v (Some LayoutConflict) None) f

    conflicts : (before : List ℕ) (b : ℕ) (w s : Option ℕ) → is_base_at (class_at t b) ≡ true → most_derived t before ≡ w → solid t b ≡ s → are_apart t w s ≡ true → refused_base t before b ≡ Some LayoutConflict
    conflicts before b w s e m q f =
        ap (λ v. cond v (cond (are_apart t (most_derived t before) (solid t b)) (Some LayoutConflict) None) (Some NotBaseType)) e
        ∙ ap (λ o. cond (are_apart t o (solid t b)) (Some LayoutConflict) None) m
        ∙ ap (λ o. cond (are_apart t w o) (Some LayoutConflict) None) q
        ∙ ap (λ v. cond v (Some LayoutConflict) None) f

    -- the first one
    first-step : (b : ℕ) → is_class t b ≡ true → is_base_at (class_at t b) ≡ true → Steps (Ok b) [] b
    unfolding Steps Started
    first-step b l e =
        let s = found b l in
        (allowed [] b None (solid t b) e refl refl refl, (best-one_some t (solid t) b s.0 s.1 s.2, l))

    -- a further one
    module _ (before : List ℕ) (a b w s : ℕ) (best : best_of t before ≡ Some a) (of_best : solid t a ≡ Some w) (of_base : solid t b ≡ Some s) (may : is_base_at (class_at t b) ≡ true) (la : is_class t a ≡ true) (lb : is_class t b ≡ true) (itself : is_sub t s s ≡ true) where
      better-is : better_of t a b ≡ cond (is_sub t w s) (Ok a) (cond (is_sub t s w) (Ok b) (Err LayoutConflict))
      better-is =
          ap (λ v. cond v (Ok a) (cond (is_under t (solid t b) (solid t a)) (Ok b) (Err LayoutConflict))) (ap (λ o. is_under t o (solid t b)) of_best ∙ ap (is_under t (Some w)) of_base)
          ∙ ap (λ v. cond (is_sub t w s) (Ok a) (cond v (Ok b) (Err LayoutConflict))) (ap (λ o. is_under t o (solid t a)) of_base ∙ ap (is_under t (Some s)) of_best)

      derived : most_derived t before ≡ Some w
      derived = ap (option_and_then (solid t)) best ∙ of_best

      further-by : (x y : Bool) → is_sub t w s ≡ x → is_sub t s w ≡ y → Steps (cond x (Ok a) (cond y (Ok b) (Err LayoutConflict))) before b
      unfolding Steps Started
      further-by true y h k =
          (allowed before b (Some w) (Some s) may derived of_base (ap (λ v. not (v || is_sub t s w)) h), (best-stays t before a w b s best of_best of_base h, la))
      further-by false true h k =
          (allowed before b (Some w) (Some s) may derived of_base (ap (λ v. not (v || is_sub t s w)) h ∙ ap (λ v. not (false || v)) k), (best-moves t before a w b s best of_best of_base h k itself, lb))
      further-by false false h k =
          conflicts before b (Some w) (Some s) may derived of_base (ap (λ v. not (v || is_sub t s w)) h ∙ ap (λ v. not (false || v)) k)

      further : Steps (better_of t a b) before b
      further = let P : Result ℕ Cause → Type 0 = λ r. Steps r before b in subst P (sym better-is) (further-by (is_sub t w s) (is_sub t s w) refl refl)

    further-step : (before : List ℕ) (a b : ℕ) → best_of t before ≡ Some a → is_class t a ≡ true → is_class t b ≡ true → is_base_at (class_at t b) ≡ true → Steps (better_of t a b) before b
    further-step before a b best la lb e =
        let w = found a la in
        let s = found b lb in
        further before a b w.0 s.0 best w.1 s.1 e la lb s.2

    step : (best : Option ℕ) (before : List ℕ) (b : ℕ) → Started best before → is_class t b ≡ true → Steps (next_best t best b) before b
    unfolding Steps Started
    step best before b s l = go best s (is_base_at (class_at t b)) refl
      where
        go : (best : Option ℕ) → Started best before → (v : Bool) → is_base_at (class_at t b) ≡ v → Steps (cond v (better t best b) (Err NotBaseType)) before b
        go best s false e = ap (λ v. cond v (cond (are_apart t (most_derived t before) (solid t b)) (Some LayoutConflict) None) (Some NotBaseType)) e
        go None s true e = let P : List ℕ → Type 0 = λ bs. Steps (Ok b) bs b in subst P (sym s) (first-step b l e)
        go (Some a) s true e = further-step before a b s.0 s.1 l e

    tells : (bs before : List ℕ) (best : Option ℕ) → Started best before → AreThere t bs → Tells (best_along t best bs) before bs
    unfolding Started Tells Steps
    tells [] before None s l = (ap (best_of t) (append-nil before ∙ s), refl)
    tells [] before (Some a) s l = (ap (best_of t) (append-nil before) ∙ s.0, refl)
    tells (b ∷ bs) before best s l = go (next_best t best b) (step best before b s l.0) (λ d q. tells bs (before ++ b ∷ []) (Some d) q l.1)
      where
        go : (r : Result ℕ Cause) → Steps r before b → ((d : ℕ) → Started (Some d) (before ++ b ∷ []) → Tells (best_along t (Some d) bs) (before ++ b ∷ []) bs) → Tells (then_best (λ d. best_along t (Some d) bs) r) before (b ∷ bs)
        go (Ok d) h more = shift (best_along t (Some d) bs) before b bs h.0 (more d h.1)
        go (Err c) h more = ap (λ o. option_or o (refused_after t (before ++ b ∷ []) bs)) h

    -- what is told of all bases
    Told : Result (Option ℕ) Cause → List ℕ → Type 0
    Told (Ok None) bs = refused_layout t bs ≡ Some EmptyBases
    Told (Ok (Some b)) bs = (best_of t bs ≡ Some b) × (refused_layout t bs ≡ None)
    Told (Err c) bs = refused_layout t bs ≡ Some c

    told-along : (bs : List ℕ) → AreThere t bs → Told (best_along t None bs) bs
    unfolding Told Tells Started
    told-along [] l = refl
    told-along (b ∷ bs) l = go (best_along t None (b ∷ bs)) refl (tells (b ∷ bs) [] None refl l)
      where
        none : (r : Result ℕ Cause) → then_best (λ d. best_along t (Some d) bs) r ≡ Ok None → ⊥
        none (Ok d) e = some-along bs d e
        none (Err c) e = cc

        go : (r : Result (Option ℕ) Cause) → best_along t None (b ∷ bs) ≡ r → Tells r [] (b ∷ bs) → Told r (b ∷ bs)
        go (Ok None) e h = absurd (none (next_best t None b) e)
        go (Ok (Some d)) e h = h
        go (Err c) e h = h

    told : (r : Result (Option PyTypeRef) Cause) (bs : List ℕ) → AreThere t bs → number_best r ≡ best_along t None bs → Told (number_best r) bs
    told r bs l e = let P : Result (Option ℕ) Cause → Type 0 = λ o. Told o bs in subst P (sym e) (told-along bs l)

    pub told-err : (cause : Cause) (bs : List ℕ) → AreThere t bs → number_best (Err cause) ≡ best_along t None bs → Some cause ≡ refused_layout t bs
    unfolding Told
    told-err cause bs l e = sym (told (Err cause) bs l e)

    pub told-none : (bs : List ℕ) → AreThere t bs → number_best (Ok None) ≡ best_along t None bs → Some EmptyBases ≡ refused_layout t bs
    unfolding Told
    told-none bs l e = sym (told (Ok None) bs l e)

    pub told-some : (b : PyTypeRef) (bs : List ℕ) → AreThere t bs → number_best (Ok (Some b)) ≡ best_along t None bs → (best_of t bs ≡ Some b.0) × (None ≡ refused_layout t bs)
    unfolding Told
    told-some b bs l e = let h = told (Ok (Some b)) bs l e in (h.0, sym h.1)

    -- bases that may be bases together have a best
    pub best-there : (bs : List ℕ) → AreThere t bs → refused_layout t bs ≡ None → (d : ℕ) × (best_of t bs ≡ Some d)
    unfolding Told
    best-there bs l e = go (best_along t None bs) (told-along bs l)
      where
        go : (r : Result (Option ℕ) Cause) → Told r bs → (d : ℕ) × (best_of t bs ≡ Some d)
        go (Ok None) h = let z : Some EmptyBases ≡ None = sym h ∙ e in cc
        go (Ok (Some d)) h = (d, h.0)
        go (Err c) h = let z : Some c ≡ None = sym h ∙ e in cc
