-- The best of some bases, when one more follows them.
use Rattle.class_model.proofs.Below.{ℕ, Bool, true, false, cond, List, [], map, Option, Some, None, inl, inr, refl, sym, ap, ◌∙◌, both_ways, and_parts, false_from_ne_true, map-append, Includes, Classes, lin, is_sub, is_along, derives_all, first_best, solid, best_of}
use Rattle.std.proofs.Common.{◌≡◌, ◌&&◌, ◌∷◌, ◌++◌}
use Rattle.class_model.proofs.Tests.{Decides-has}
use Rattle.class_model.proofs.Rule.{lin-inside, lin-itself}

module _ {K : Type 0} (t : Classes K) where
  along-of : (a b : ℕ) → is_sub t a b ≡ true → (line : List ℕ) × (lin t a ≡ Some line) × Includes line b
  along-of a b e = go (lin t a) refl e
    where
      go : (o : Option (List ℕ)) → lin t a ≡ o → is_along b o ≡ true → (line : List ℕ) × (lin t a ≡ Some line) × Includes line b
      go None l h = cc
      go (Some line) l h = (line, l, (Decides-has line b).0 h)

  pub sub-trans : (a b c : ℕ) → is_sub t a b ≡ true → is_sub t b c ≡ true → is_sub t a c ≡ true
  sub-trans a b c e f =
      let r = along-of a b e in
      let q = along-of b c f in
      ap (is_along c) r.1 ∙ (Decides-has r.0 c).1 (lin-inside t a r.0 b q.0 c r.1 r.2 q.1 q.2)

  pub sub-itself : (c : ℕ) (line : List ℕ) → lin t c ≡ Some line → is_sub t c c ≡ true
  sub-itself c line e = ap (is_along c) e ∙ lin-itself t c line e

  derives-left : (o : Option ℕ) (ds es : List (Option ℕ)) → derives_all t o (ds ++ es) ≡ true → derives_all t o ds ≡ true
  derives-left None ds es e = cc
  derives-left (Some c) [] es e = refl
  derives-left (Some c) (None ∷ ds) es e = cc
  derives-left (Some c) (Some d ∷ ds) es e =
      let q = and_parts (is_sub t c d) (derives_all t (Some c) (ds ++ es)) e in
      let rest = derives-left (Some c) ds es q.1 in
      ap (λ b. b && derives_all t (Some c) ds) q.0 ∙ rest

  derives-last : (c s : ℕ) (ds : List (Option ℕ)) → derives_all t (Some c) (ds ++ Some s ∷ []) ≡ true → is_sub t c s ≡ true
  derives-last c s [] e = (and_parts (is_sub t c s) true e).0
  derives-last c s (None ∷ ds) e = cc
  derives-last c s (Some d ∷ ds) e = derives-last c s ds (and_parts (is_sub t c d) (derives_all t (Some c) (ds ++ Some s ∷ [])) e).1

  derives-more : (c s : ℕ) (ds : List (Option ℕ)) → derives_all t (Some c) ds ≡ true → is_sub t c s ≡ true → derives_all t (Some c) (ds ++ Some s ∷ []) ≡ true
  derives-more c s [] e f = ap (λ b. b && true) f
  derives-more c s (None ∷ ds) e f = cc
  derives-more c s (Some d ∷ ds) e f =
      let q = and_parts (is_sub t c d) (derives_all t (Some c) ds) e in
      let rest = derives-more c s ds q.1 f in
      ap (λ b. b && derives_all t (Some c) (ds ++ Some s ∷ [])) q.0 ∙ rest

  -- what derives from one derives from all that it derives from
  derives-below : (c w : ℕ) (ds : List (Option ℕ)) → is_sub t c w ≡ true → derives_all t (Some w) ds ≡ true → derives_all t (Some c) ds ≡ true
  derives-below c w [] e f = refl
  derives-below c w (None ∷ ds) e f = cc
  derives-below c w (Some d ∷ ds) e f =
      let q = and_parts (is_sub t w d) (derives_all t (Some w) ds) f in
      let rest = derives-below c w ds e q.1 in
      ap (λ b. b && derives_all t (Some c) ds) (sub-trans c w d e q.0) ∙ rest

  pub derives-each : (w : ℕ) (f : ℕ → Option ℕ) (bs : List ℕ) (b y : ℕ) → derives_all t (Some w) (map f bs) ≡ true → Includes bs b → f b ≡ Some y → is_sub t w y ≡ true
  derives-each w f [] b y e h k = absurd h
  derives-each w f (x ∷ bs) b y e h k = go (f x) refl e (λ q r. derives-each w f bs b y q r k)
    where
      go : (o : Option ℕ) → f x ≡ o → derives_all t (Some w) (o ∷ map f bs) ≡ true → (derives_all t (Some w) (map f bs) ≡ true → Includes bs b → is_sub t w y ≡ true) → is_sub t w y ≡ true
      go None i e more = cc
      go (Some d) i e more =
          let q = and_parts (is_sub t w d) (derives_all t (Some w) (map f bs)) e in
          elim h [
            | inl r ↦ let s : d ≡ y = let p = ap f r in cc in ap (is_sub t w) (sym s) ∙ q.0
            | inr r ↦ more q.1 r
          ]

  -- the best of some derives from the solid classes of all
  pub first-derives : (f : ℕ → Option ℕ) (all bs : List ℕ) (a : ℕ) → first_best t f all bs ≡ Some a → derives_all t (f a) (map f all) ≡ true
  first-derives f all [] a e = cc
  first-derives f all (x ∷ bs) a e = go (derives_all t (f x) (map f all)) refl e (first-derives f all bs a)
    where
      go : (w : Bool) → derives_all t (f x) (map f all) ≡ w → cond w (Some x) (first_best t f all bs) ≡ Some a → (first_best t f all bs ≡ Some a → derives_all t (f a) (map f all) ≡ true) → derives_all t (f a) (map f all) ≡ true
      go true k e more = let s : x ≡ a = cc in ap (λ z. derives_all t (f z) (map f all)) (sym s) ∙ k
      go false k e more = more e

  module _ (before : List ℕ) (a w b s : ℕ) (best : best_of t before ≡ Some a) (of_best : solid t a ≡ Some w) (of_last : solid t b ≡ Some s) where
    all : List (Option ℕ)
    all = map (solid t) (before ++ b ∷ [])

    all-is : map (solid t) (before ++ b ∷ []) ≡ map (solid t) before ++ Some s ∷ []
    all-is = map-append (solid t) before (b ∷ []) ∙ ap (λ o. map (solid t) before ++ o ∷ []) of_last

    first : derives_all t (Some w) (map (solid t) before) ≡ true
    first = ap (λ o. derives_all t o (map (solid t) before)) (sym of_best) ∙ first-derives (solid t) before before a best

    stays-along : is_sub t w s ≡ true → (bs : List ℕ) → first_best t (solid t) before bs ≡ Some a → first_best t (solid t) (before ++ b ∷ []) (bs ++ b ∷ []) ≡ Some a
    stays-along e [] h = cc
    stays-along e (x ∷ bs) h = go (derives_all t (solid t x) (map (solid t) before)) refl h (stays-along e bs)
      where
        go : (v : Bool) → derives_all t (solid t x) (map (solid t) before) ≡ v → cond v (Some x) (first_best t (solid t) before bs) ≡ Some a → (first_best t (solid t) before bs ≡ Some a → first_best t (solid t) (before ++ b ∷ []) (bs ++ b ∷ []) ≡ Some a) → first_best t (solid t) (before ++ b ∷ []) (x ∷ bs ++ b ∷ []) ≡ Some a
        go true k h more =
            let r : x ≡ a = cc in
            let d = ap (derives_all t (solid t x)) all-is ∙ ap (λ o. derives_all t o (map (solid t) before ++ Some s ∷ [])) (ap (solid t) r ∙ of_best) ∙ derives-more w s (map (solid t) before) first e in
            ap (λ v. cond v (Some x) (first_best t (solid t) (before ++ b ∷ []) (bs ++ b ∷ []))) d ∙ ap Some r
        go false k h more =
            let d = false_from_ne_true (derives_all t (solid t x) (map (solid t) (before ++ b ∷ []))) (λ q. both_ways _ k (derives-left (solid t x) (map (solid t) before) (Some s ∷ []) (sym (ap (derives_all t (solid t x)) all-is) ∙ q))) in
            ap (λ v. cond v (Some x) (first_best t (solid t) (before ++ b ∷ []) (bs ++ b ∷ []))) d ∙ more h

    -- the best one so far derives from the further one
    pub best-stays : is_sub t w s ≡ true → best_of t (before ++ b ∷ []) ≡ Some a
    best-stays e = stays-along e before best

    -- no earlier one is the best any more
    passed : is_sub t w s ≡ false → (x : ℕ) → Includes before x → derives_all t (solid t x) (map (solid t) (before ++ b ∷ [])) ≡ false
    passed n x h = false_from_ne_true _ (λ q. go (solid t x) refl (sym (ap (derives_all t (solid t x)) all-is) ∙ q))
      where
        go : (o : Option ℕ) → solid t x ≡ o → derives_all t o (map (solid t) before ++ Some s ∷ []) ≡ true → ⊥
        go None k q = cc
        go (Some y) k q =
            both_ways _ n (sub-trans w y s (derives-each w (solid t) before x y first h k) (derives-last y s (map (solid t) before) q))

    moves-along : derives_all t (solid t b) (map (solid t) (before ++ b ∷ [])) ≡ true → (bs : List ℕ) → ((x : ℕ) → Includes bs x → derives_all t (solid t x) (map (solid t) (before ++ b ∷ [])) ≡ false) → first_best t (solid t) (before ++ b ∷ []) (bs ++ b ∷ []) ≡ Some b
    moves-along e [] h = ap (λ v. cond v (Some b) None) e
    moves-along e (x ∷ bs) h =
        ap (λ v. cond v (Some x) (first_best t (solid t) (before ++ b ∷ []) (bs ++ b ∷ []))) (h x (inl refl)) ∙ moves-along e bs (λ y k. h y (inr k))

    -- the further one derives from the best one so far, and not the other way
    pub best-moves : is_sub t w s ≡ false → is_sub t s w ≡ true → is_sub t s s ≡ true → best_of t (before ++ b ∷ []) ≡ Some b
    best-moves n e i =
        moves-along (ap (derives_all t (solid t b)) all-is ∙ ap (λ o. derives_all t o (map (solid t) before ++ Some s ∷ [])) of_last ∙ derives-more s s (map (solid t) before) (derives-below s w (map (solid t) before) e first) i) before (passed n)
