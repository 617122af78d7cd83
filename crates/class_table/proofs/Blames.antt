-- The first class, in the order of numbers, that has no order under other bases while all its bases have one.
use Rattle.class_table.proofs.Below.{ℕ, zero, suc, Bool, true, false, cond, eqb, List, [], map, length, drop, Option, Some, None, inl, inr, refl, sym, ap, subst, ◌∙◌, arith, slice_get, IfSome, IfNone, leb, is_some, is_none, option_map, option_and_then, false≢true, false_from_ne_true, cases_eq, eqb-true, ne_eqb, leb-true, and_parts, drop_more, slice_get_within, slice_get-map, get_or_from_slice_get, drop_of_length-le, Cause, PyStrInterned, has, all_some, Class, Classes, bases_of, lin, numbers_of, ascend_from, is_ascending, with_bases, is_blamed, blamed_along, order_cause, caused, failing, all_some-some, numbers, StoredClass, class_of, classes_of, IsCoherent, Trial, Line, Failed, Without, Blame, Ranked, AreRanked, bases_under, cause_tried, IsTrial, HasTrial, IsToBlame, IsBlamed, IsSpared, IsBlame, AreBlame, IsReached, AreReached, AllReached}
use Rattle.std.proofs.Common.{◌≡◌, ◌<◌, ◌≤◌, ◌+◌, ◌&&◌, ◌∷◌, ◌⊎◌}
use Rattle.class_table.proofs.Trials.{kept-away, bases-now}
use Rattle.class_table.proofs.Descended.{some-in}

-- the classes with the other bases, each looked at for itself
abbrev pub under_one : ℕ → List ℕ → StoredClass → Class PyStrInterned
under_one c bs k = record (class_of k) { bases = bases_under c bs k }

abbrev pub under : ℕ → List ℕ → List StoredClass → Classes PyStrInterned
under c bs kept = map (under_one c bs) kept

-- past the changed class nothing changes
pub under-past : (c : ℕ) (bs : List ℕ) (n : ℕ) (kept : List StoredClass) → c < n → ascend_from n (numbers_of (classes_of kept)) ≡ true → under c bs kept ≡ classes_of kept
under-past c bs n [] l up = refl
under-past c bs n (k ∷ kept) l up =
    let q = and_parts (leb n k.number) (ascend_from (suc k.number) (numbers_of (classes_of kept))) up in
    let m = leb-true n k.number q.0 in
    let here : under_one c bs k ≡ class_of k = ap (λ b. record (class_of k) { bases = cond b bs k.bases }) (ne_eqb k.number c (λ e. omega arith)) in
    ap (λ j. j ∷ under c bs kept) here ∙ ap (λ (t : Classes PyStrInterned). class_of k ∷ t) (under-past c bs (suc k.number) kept (omega arith) q.1)

under-from : (c : ℕ) (bs : List ℕ) (n : ℕ) (kept : List StoredClass) → ascend_from n (numbers_of (classes_of kept)) ≡ true → under c bs kept ≡ with_bases (classes_of kept) c bs
under-from c bs n [] up = refl
under-from c bs n (k ∷ kept) up = go (eqb k.number c) refl (under-from c bs (suc k.number) kept rest)
  where
    rest : ascend_from (suc k.number) (numbers_of (classes_of kept)) ≡ true
    rest = (and_parts (leb n k.number) (ascend_from (suc k.number) (numbers_of (classes_of kept))) up).1

    go : (b : Bool) → eqb k.number c ≡ b → under c bs kept ≡ with_bases (classes_of kept) c bs → record (class_of k) { bases = cond b bs k.bases } ∷ under c bs kept ≡ cond b (record (class_of k) { bases = bs } ∷ classes_of kept) (class_of k ∷ with_bases (classes_of kept) c bs)
    go true e more =
        let same = eqb-true k.number c e in
        ap (λ (t : Classes PyStrInterned). record (class_of k) { bases = bs } ∷ t) (under-past c bs (suc k.number) kept (omega (arith, same)) rest)
    go false e more = ap (λ (t : Classes PyStrInterned). class_of k ∷ t) more

pub under-is : (kept : List StoredClass) → is_ascending (classes_of kept) ≡ true → (c : ℕ) (bs : List ℕ) → under c bs kept ≡ with_bases (classes_of kept) c bs
under-is kept up c bs = under-from c bs 0 kept up

-- the classes from a place on
pub under-drop : (c : ℕ) (bs : List ℕ) (kept : List StoredClass) (i : ℕ) (k : StoredClass) → slice_get kept i ≡ Some k → under c bs (drop i kept) ≡ under_one c bs k ∷ under c bs (drop (i + 1) kept)
under-drop c bs kept i k e =
    ap (under c bs) (drop_more kept i k (slice_get_within kept i k e) ∙ ap (λ z. z ∷ drop (i + 1) kept) (get_or_from_slice_get kept i k k e))

module _ (u : Classes PyStrInterned) (x : ℕ) (ds : List ℕ) (of : bases_of u x ≡ Some ds) where
  -- a class that is to blame
  pub blamed-is : (cause : Cause) → IsToBlame u x cause → (is_blamed u x ds ≡ true) × (caused u x ≡ Some (x, cause))
  blamed-is cause b =
      let same : b.bases ≡ ds = let q = b.of_class in cc in
      let all : all_some (map (lin u) ds) ≡ Some b.lines = ap (λ ws. all_some (map (lin u) ws)) (sym same) ∙ ap all_some b.of_bases ∙ all_some-some b.lines in (
        ap (λ o. is_some o && is_none (lin u x)) all ∙ ap is_none b.none,
        ap (option_and_then (λ bs. option_map (λ lines. (x, order_cause bs lines)) (all_some (map (lin u) bs)))) of
            ∙ ap (option_map (λ lines. (x, order_cause ds lines))) all
            ∙ ap (λ ws. Some (x, order_cause ws b.lines)) (sym same)
            ∙ ap (λ z. Some (x, z)) b.why,
      )

  -- and classes that are not
  pub lined-is : (line : List ℕ) → lin u x ≡ Some line → is_blamed u x ds ≡ false
  lined-is line e = go (is_some (all_some (map (lin u) ds)))
    where
      go : (b : Bool) → (b && is_none (lin u x)) ≡ false
      go true = ap is_none e
      go false = refl

  pub without-is : (bases : List ℕ) → bases_of u x ≡ Some bases → all_some (map (lin u) bases) ≡ None → is_blamed u x ds ≡ false
  without-is bases is e =
      let same : bases ≡ ds = cc in
      ap (λ ws. is_some (all_some (map (lin u) ws)) && is_none (lin u x)) (sym same) ∙ ap (λ o. is_some o && is_none (lin u x)) e

  -- what a trial tells
  pub tried-blamed : (o : Option Trial) (r : Trial) (cause : Cause) → HasTrial u x o → Some r ≡ o → Some cause ≡ cause_tried r → (is_blamed u x ds ≡ true) × (caused u x ≡ Some (x, cause))
  tried-blamed None r cause h e f = absurd h
  tried-blamed (Some q) r cause h e f =
      let same : q ≡ r = cc in
      let P : Trial → Type 0 = λ z. IsTrial u x z in
      go r (subst P same h) f
    where
      go : (z : Trial) → IsTrial u x z → Some cause ≡ cause_tried z → (is_blamed u x ds ≡ true) × (caused u x ≡ Some (x, cause))
      go (Line line) t f = cc
      go (Failed other) t f = let w : other ≡ cause = cc in let Q : Cause → Type 0 = λ z. IsToBlame u x z in blamed-is cause (subst Q w t)
      go Without t f = cc

  pub tried-spared : (o : Option Trial) (r : Trial) → HasTrial u x o → Some r ≡ o → None ≡ cause_tried r → is_blamed u x ds ≡ false
  tried-spared None r h e f = absurd h
  tried-spared (Some q) r h e f =
      let same : q ≡ r = cc in
      let P : Trial → Type 0 = λ z. IsTrial u x z in
      go r (subst P same h) f
    where
      go : (z : Trial) → IsTrial u x z → None ≡ cause_tried z → is_blamed u x ds ≡ false
      go (Line line) t f = lined-is (numbers line.items) t
      go (Failed other) t f = cc
      go Without t f = without-is t.bases t.of_class t.of_bases

pub if-some : {A : Type 0} (o : Option A) (P : A → Type 0) → ((x : A) → Some x ≡ o → P x) → IfSome o P
if-some None P h = tt
if-some (Some x) P h = h x refl

pub if-none : {A : Type 0} (o : Option A) (P : Type 0) → (None ≡ o → P) → IfNone o P
if-none None P h = h refl
if-none (Some x) P h = tt

module _ (kept : List StoredClass) (ok : IsCoherent kept) (c : ℕ) (bs : List ℕ) where
  -- the class at a place is not to blame
  pub blame-next : (i : ℕ) (k : StoredClass) → slice_get kept i ≡ Some k → is_blamed (with_bases (classes_of kept) c bs) k.number (bases_under c bs k) ≡ false → blamed_along (with_bases (classes_of kept) c bs) (under c bs (drop i kept)) ≡ blamed_along (with_bases (classes_of kept) c bs) (under c bs (drop (i + 1) kept))
  blame-next i k e h =
      let u = with_bases (classes_of kept) c bs in
      ap (blamed_along u) (under-drop c bs kept i k e) ∙ ap (λ b. cond b (Some k.number) (blamed_along u (under c bs (drop (i + 1) kept)))) h

  whole : blamed_along (with_bases (classes_of kept) c bs) (under c bs kept) ≡ blamed_along (with_bases (classes_of kept) c bs) (with_bases (classes_of kept) c bs)
  whole = ap (blamed_along (with_bases (classes_of kept) c bs)) (under-is kept ok.sound.ascending c bs)

  -- it is the first
  pub failing-here : (i : ℕ) (k : StoredClass) (cause : Cause) → slice_get kept i ≡ Some k → blamed_along (with_bases (classes_of kept) c bs) (under c bs (drop i kept)) ≡ blamed_along (with_bases (classes_of kept) c bs) (under c bs kept) → is_blamed (with_bases (classes_of kept) c bs) k.number (bases_under c bs k) ≡ true → caused (with_bases (classes_of kept) c bs) k.number ≡ Some (k.number, cause) → failing (classes_of kept) c bs ≡ Some (k.number, cause)
  failing-here i k cause e same h is =
      let u = with_bases (classes_of kept) c bs in
      ap (option_and_then (caused u)) (sym whole ∙ sym same ∙ ap (blamed_along u) (under-drop c bs kept i k e) ∙ ap (λ b. cond b (Some k.number) (blamed_along u (under c bs (drop (i + 1) kept)))) h) ∙ is

  -- there is none
  pub failing-end : (i : ℕ) → length kept ≤ i → blamed_along (with_bases (classes_of kept) c bs) (under c bs (drop i kept)) ≡ blamed_along (with_bases (classes_of kept) c bs) (under c bs kept) → failing (classes_of kept) c bs ≡ None
  failing-end i l same =
      let u = with_bases (classes_of kept) c bs in
      ap (option_and_then (caused u)) (sym whole ∙ sym same ∙ ap (λ ks. blamed_along u (under c bs ks)) (drop_of_length-le kept l))

  -- where none of the first is to blame
  pub spare : (n : ℕ) → n ≤ length kept → ((i : ℕ) (k : StoredClass) → i < n → slice_get kept i ≡ Some k → IsBlamed kept c bs k → ⊥) → blamed_along (with_bases (classes_of kept) c bs) (under c bs (drop n kept)) ≡ blamed_along (with_bases (classes_of kept) c bs) (under c bs kept)
  spare zero l h = refl
  spare (suc n) l h =
      let r = some-in kept n (omega (arith, l)) in
      let here : is_blamed (with_bases (classes_of kept) c bs) r.0.number (bases_under c bs r.0) ≡ false = false_from_ne_true _ (h n r.0 (omega arith) r.1) in
      let P : ℕ → Type 0 = λ m. blamed_along (with_bases (classes_of kept) c bs) (under c bs (drop m kept)) ≡ blamed_along (with_bases (classes_of kept) c bs) (under c bs kept) in
      let next : suc n ≡ n + 1 = omega arith in
      subst P (sym next) (sym (blame-next n r.0 r.1 here) ∙ spare n (omega (arith, l)) (λ i k m e b. h i k (omega (arith, m)) e b))

  -- the first that is to blame
  pub failing-first : (b : Blame) → IsBlame kept c bs b → AllReached kept c bs (Some b) → (x : ℕ) → slice_get (numbers_of (classes_of kept)) b.place ≡ Some x → failing (classes_of kept) c bs ≡ Some (x, b.cause)
  failing-first b is all x e =
      let l = slice_get_within kept b.place is.class is.at in
      let number : is.class.number ≡ x = let f = slice_get-map (λ (k : Class PyStrInterned). k.number) (classes_of kept) b.place ∙ ap (option_map (λ (k : Class PyStrInterned). k.number)) (slice_get-map class_of kept b.place ∙ ap (option_map class_of) is.at) in cc in
      failing-here b.place is.class b.cause is.at (spare b.place (omega (arith, l)) (λ i k m f q. let r = all i k f q in omega (arith, r, m))) is.blamed is.caused ∙ ap (λ n. Some (n, b.cause)) number

  pub failing-none : AllReached kept c bs None → failing (classes_of kept) c bs ≡ None
  failing-none all = failing-end (length kept) (omega arith) (spare (length kept) (omega arith) (λ i k m f q. all i k f q))

  -- a class that does not derive from the changed one is not to blame
  pub away-spared : (i : ℕ) (k : StoredClass) → slice_get kept i ≡ Some k → has k.mro c ≡ false → IsBlamed kept c bs k → ⊥
  away-spared i k e h b =
      false≢true (sym (lined-is (with_bases (classes_of kept) c bs) k.number (bases_under c bs k) (bases-now kept ok c bs i k e) k.mro (kept-away kept ok c bs i k e h)) ∙ b)

  module _ (ranked : List Ranked) (are : AreRanked kept c ranked) where
    -- all that derive from it were looked at
    pub reached-all : (n : ℕ) (first : Option Blame) → length ranked ≤ n → AreReached kept c bs ranked n first → AllReached kept c bs first
    reached-all n first l reached i k e b = go (has k.mro c) refl
      where
        go : (d : Bool) → has k.mro c ≡ d → IsReached first i
        go true d =
            let s = are.all i k e d in
            let w = slice_get_within ranked s.index s.one s.at in
            let P : ℕ → Type 0 = λ p. IsReached first p in
            subst P s.place (reached s.index s.one k (omega (arith, w, l)) s.at (ap (slice_get kept) s.place ∙ e) b)
        go false d = absurd (away-spared i k e d b)

    -- one more that is not to blame
    pub reached-skip : (n : ℕ) (y : Ranked) (first : Option Blame) → slice_get ranked n ≡ Some y → ((k : StoredClass) → slice_get kept y.place ≡ Some k → IsSpared kept c bs k) → AreReached kept c bs ranked n first → AreReached kept c bs ranked (n + 1) first
    reached-skip n y first here spared reached j r k l e f b = elim (cases_eq j n) [
      | inl q ↦
          let same : r ≡ y = let v : slice_get ranked n ≡ Some r = ap (slice_get ranked) (sym q) ∙ e in cc in
          let w = spared k (ap (λ (z : Ranked). slice_get kept z.place) (sym same) ∙ f) in
          absurd (false≢true (sym w ∙ b))
      | inr q ↦ reached j r k (omega (arith, l, q)) e f b
    ]

    -- and one that is
    pub reached-more : (n : ℕ) (y : Ranked) (first : Option Blame) (new : Blame) → slice_get ranked n ≡ Some y → new.place ≤ y.place → ((i : ℕ) → IsReached first i → new.place ≤ i) → AreReached kept c bs ranked n first → AreReached kept c bs ranked (n + 1) (Some new)
    reached-more n y first new here own other reached j r k l e f b = elim (cases_eq j n) [
      | inl q ↦
          let same : r ≡ y = let v : slice_get ranked n ≡ Some r = ap (slice_get ranked) (sym q) ∙ e in cc in
          let P : Ranked → Type 0 = λ z. new.place ≤ z.place in
          subst P (sym same) own
      | inr q ↦ other r.place (reached j r k (omega (arith, l, q)) e f b)
    ]

    pub blame-more : (n : ℕ) (y : Ranked) (cause : Cause) (first : Option Blame) (new : Blame) → slice_get ranked n ≡ Some y → ((k : StoredClass) → slice_get kept y.place ≡ Some k → IsBlamed kept c bs k) → ((k : StoredClass) → slice_get kept y.place ≡ Some k → caused (with_bases (classes_of kept) c bs) k.number ≡ Some (k.number, cause)) → ((Some new ≡ first) ⊎ (new ≡ record { place = y.place; cause = cause })) → AreBlame kept c bs first → IsBlame kept c bs new
    blame-more n y cause first new here blamed why one old = elim one [
      | inl q ↦ let P : Option Blame → Type 0 = λ o. AreBlame kept c bs o in subst P (sym q) old
      | inr q ↦
          let d = are.within n y here in
          let P : Blame → Type 0 = λ z. IsBlame kept c bs z in
          subst P (sym q) (record { class = d.class; at = d.at; blamed = blamed d.class d.at; caused = why d.class d.at })
    ]
