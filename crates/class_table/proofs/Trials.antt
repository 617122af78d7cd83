-- The trial of other bases, class by class.
use Rattle.class_table.proofs.Below.{ℕ, true, false, cond, List, [], map, length, get_or, eqb, Result, Ok, Err, Option, Some, None, inl, inr, refl, sym, ap, subst, ◌∙◌, arith, slice_get, IfOk, is_some, option_map, option_and_then, false≢true, cases_eq, eq-eqb, ne_eqb, get_or_from_slice_get, slice_get-get_or, slice_get_within, Cause, PyStrInterned, has, least_order, all_some, Includes, Distinct, Class, Classes, class_at, is_class, bases_of, lin, is_along, with_bases, order_cause, Includes-equal, Subsequence-length, Decides-has, all_some-has, all_some-holds, lin-rule, lin-begins, lin-bases, lin-member, lin-by, all_some-some, bases-distinct, keeps-members, IsApart, IsRest, HasNoOrder, StoredClass, class_of, classes_of, IsCoherent, AreThere, any_derives, Trial, Line, Failed, Without, Ranked, AreRanked, bases_under, trial_at, line_tried, IsTrial, HasTrial, IsToBlame, IsWithout, IsKnown, AreKnown, AreTried}
use Rattle.std.proofs.Common.{◌≡◌, ◌+◌, ◌<◌, ◌≤◌, ◌∷◌}
use Rattle.class_table.proofs.Found.{place-class}
use Rattle.class_table.proofs.Pushed.{each-there}
use Rattle.class_table.proofs.Passed.{none-derives}
use Rattle.class_table.proofs.Rebased.{own-base, past-head, base-apart, bases-away, bases-here, line-away}

-- a class that does not derive from the changed one keeps what is kept of it
pub kept-away : (kept : List StoredClass) (ok : IsCoherent kept) (c : ℕ) (bs : List ℕ) (i : ℕ) (k : StoredClass) → slice_get kept i ≡ Some k → has k.mro c ≡ false → lin (with_bases (classes_of kept) c bs) k.number ≡ Some k.mro
kept-away kept ok c bs i k e h = line-away (classes_of kept) c bs k.number k.mro (ok.mro i k e) h

-- what was read at a place stands there
pub read-is : {A : Type 0} (xs : List A) (i : ℕ) (x y : A) → x ≡ get_or xs i x → slice_get xs i ≡ Some y → x ≡ y
read-is xs i x y e h = e ∙ get_or_from_slice_get xs i y x h

pub read-at : {A : Type 0} (xs : List A) (i : ℕ) (x : A) → i < length xs → x ≡ get_or xs i x → slice_get xs i ≡ Some x
read-at xs i x l e = slice_get-get_or xs i x l ∙ ap Some (sym e)

-- a class one of whose bases has no order has none
pub none-without : (t : Classes PyStrInterned) (x : ℕ) → IsWithout t x → lin t x ≡ None
none-without t x w =
    lin-rule t x
    ∙ ap (option_and_then (λ bs. option_and_then (least_order x bs) (all_some (map (lin t) bs)))) w.of_class
    ∙ ap (option_and_then (least_order x w.bases)) w.of_bases

-- where one of some bases has no order, not all have one
pub none-among : (f : ℕ → Option (List ℕ)) (bs : List ℕ) (b : ℕ) → Includes bs b → f b ≡ None → all_some (map f bs) ≡ None
none-among f bs b h e = go (all_some (map f bs)) refl
  where
    go : (o : Option (List (List ℕ))) → all_some (map f bs) ≡ o → o ≡ None
    go None q = refl
    go (Some ls) q = let r = all_some-has f bs ls b q h in let s = r.2 in cc

module _ (t : Classes PyStrInterned) (x : ℕ) (ds : List ℕ) (lines : List (List ℕ)) (of : bases_of t x ≡ Some ds) (is : map Some lines ≡ map (lin t) ds) where
  all : all_some (map (lin t) ds) ≡ Some lines
  all = ap all_some (sym is) ∙ all_some-some lines

  -- the class stands in none of its bases' linearisations
  apart : IsApart x lines
  apart = λ l h k.
      let r = all_some-holds (lin t) ds lines l all h in
      let m = lin-member t r.0 l x r.2 k in
      false≢true (sym (base-apart t x m.0 ds r.0 m.1 of r.1) ∙ ap (is_along x) r.2 ∙ (Decides-has l x).1 k)

  -- the merge gives its linearisation
  pub line-tried : (rest : List ℕ) → IsRest ds lines rest → lin t x ≡ Some (x ∷ rest)
  line-tried rest r = lin-by t x ds lines (x ∷ rest) of all (r.computed x apart)

  -- or there is none
  pub blame-tried : (cause : Cause) → HasNoOrder ds lines → order_cause ds lines ≡ cause → IsToBlame t x cause
  blame-tried cause n e = record {
    bases = ds;
    lines = lines;
    of_class = of;
    of_bases = sym is;
    none =
        lin-rule t x
        ∙ ap (option_and_then (λ bs. option_and_then (least_order x bs) (all_some (map (lin t) bs)))) of
        ∙ ap (option_and_then (least_order x ds)) all
        ∙ n.computed x apart;
    why = e;
  }

-- a base has a shorter linearisation
pub shorter : {K : Type 0} (t : Classes K) (x : ℕ) (line bs : List ℕ) (b : ℕ) (l : List ℕ) → lin t x ≡ Some line → bases_of t x ≡ Some bs → Includes bs b → lin t b ≡ Some l → length l < length line
shorter t x [] bs b l e f h g = absurd (lin-begins t x [] e)
shorter t x (y ∷ rest) bs b l e f h g =
    let is : y ≡ x = lin-begins t x (y ∷ rest) e in
    let sub = keeps-members t x (y ∷ rest) b l e (lin-bases t x (y ∷ rest) bs b e f h) g in
    let other : b ≡ y → ⊥ = λ i. own-base t (length t) x bs (y ∷ rest) f (Includes-equal bs b x (i ∙ is) h) e in
    let n = Subsequence-length l rest (past-head t y b l rest (lin-begins t b l g) other sub) in
    omega (arith, n)

under-here : (c x : ℕ) (bs ds : List ℕ) → x ≡ c → cond (eqb x c) bs ds ≡ bs
under-here c x bs ds e = ap (λ b. cond b bs ds) (eq-eqb x c e)

under-away : (c x : ℕ) (bs ds : List ℕ) → (x ≡ c → ⊥) → cond (eqb x c) bs ds ≡ ds
under-away c x bs ds n = ap (λ b. cond b bs ds) (ne_eqb x c n)

first-of : (n j a b x y : ℕ) → a ≡ x → b ≡ y → y < x → (n ≤ j → a ≤ b) → j < n
first-of n j a b x y p q l h = grind (arith, h)

module _ (kept : List StoredClass) (ok : IsCoherent kept) (c : ℕ) (bs : List ℕ) (i : ℕ) (k : StoredClass) (at : slice_get kept i ≡ Some k) where
  class-is : class_at (classes_of kept) k.number ≡ Some (class_of k)
  class-is = place-class kept ok.sound.ascending i k at

  pub is-there : is_class (classes_of kept) k.number ≡ true
  is-there = ap is_some class-is

  pub own-bases : bases_of (classes_of kept) k.number ≡ Some k.bases
  own-bases = ap (option_map (λ (j : Class PyStrInterned). j.bases)) class-is

  -- the bases of a class under the change
  pub bases-now : bases_of (with_bases (classes_of kept) c bs) k.number ≡ Some (bases_under c bs k)
  bases-now = elim (cases_eq k.number c) [
    | inl e ↦
        ap (bases_of (with_bases (classes_of kept) c bs)) e
        ∙ bases-here (classes_of kept) c bs (ap (is_class (classes_of kept)) (sym e) ∙ is-there)
        ∙ ap Some (sym (under-here c k.number bs k.bases e))
    | inr n ↦ bases-away (classes_of kept) c bs k.number n ∙ own-bases ∙ ap Some (sym (under-away c k.number bs k.bases n))
  ]

  pub distinct-now : Distinct bs → Distinct (bases_under c bs k)
  distinct-now d = elim (cases_eq k.number c) [
    | inl e ↦ subst Distinct (sym (under-here c k.number bs k.bases e)) d
    | inr n ↦ subst Distinct (sym (under-away c k.number bs k.bases n)) (bases-distinct (classes_of kept) k.number k.mro k.bases (ok.mro i k at) own-bases)
  ]

  module _ (held : AreThere (classes_of kept) bs) (away : any_derives (classes_of kept) bs c ≡ false) where
    pub there-now : (b : ℕ) → Includes (bases_under c bs k) b → is_class (classes_of kept) b ≡ true
    there-now b h =
        let P : List ℕ → Type 0 = λ ds. Includes ds b in
        elim (cases_eq k.number c) [
          | inl e ↦ each-there (classes_of kept) bs held b (subst P (under-here c k.number bs k.bases e) h)
          | inr n ↦ ok.sound.there k.number b k.bases own-bases (subst P (under-away c k.number bs k.bases n) h)
        ]

    -- a base that derives from the changed class has a shorter linearisation
    before : (b j : ℕ) (m : StoredClass) → Includes (bases_under c bs k) b → slice_get kept j ≡ Some m → m.number ≡ b → has m.mro c ≡ true → length m.mro < length k.mro
    before b j m h e num d =
        let P : List ℕ → Type 0 = λ ds. Includes ds b in
        let line : lin (classes_of kept) b ≡ Some m.mro = ap (lin (classes_of kept)) (sym num) ∙ ok.mro j m e in
        elim (cases_eq k.number c) [
          | inl q ↦
              let none = none-derives (classes_of kept) c bs away b (subst P (under-here c k.number bs k.bases q) h) in
              absurd (false≢true (sym none ∙ ap (is_along c) line ∙ d))
          | inr n ↦
              shorter (classes_of kept) k.number k.mro k.bases b m.mro (ok.mro i k at) own-bases (subst P (under-away c k.number bs k.bases n) h) line
        ]

    -- so where the classes before it were tried, the trials of its bases are known
    pub known-now : (ranked : List Ranked) (n : ℕ) (r : Ranked) (trials : List (ℕ × Trial)) → AreRanked kept c ranked → slice_get ranked n ≡ Some r → r.place ≡ i → AreTried kept c bs ranked n trials → (b : ℕ) → Includes (bases_under c bs k) b → IsKnown kept c bs trials b
    known-now ranked n r trials are here place tried b h = record {
      at = λ j m e num d.
          let s = are.all j m e d in
          let own = are.within n r here in
          let same : own.class ≡ k = let q : slice_get kept i ≡ Some own.class = ap (slice_get kept) (sym place) ∙ own.at in cc in
          let long : r.length ≡ length k.mro = own.length ∙ ap (λ (z : StoredClass). length z.mro) same in
          let other = are.within s.index s.one s.at in
          let same-other : other.class ≡ m = let q : slice_get kept j ≡ Some other.class = ap (slice_get kept) (sym s.place) ∙ other.at in cc in
          let short : s.one.length ≡ length m.mro = other.length ∙ ap (λ (z : StoredClass). length z.mro) same-other in
          let less = before b j m h e num d in
          let rises : n ≤ s.index → r.length ≤ s.one.length = λ l. are.rises n s.index r s.one l here s.at in
          let first : s.index < n = first-of n s.index r.length s.one.length (length k.mro) (length m.mro) long short less rises in
          let t = tried.at s.index s.one m first s.at (ap (slice_get kept) s.place ∙ e) in
          let Q : ℕ → Type 0 = λ x. HasTrial (with_bases (classes_of kept) c bs) x (trial_at trials j) in
          let R : ℕ → Type 0 = λ p. HasTrial (with_bases (classes_of kept) c bs) m.number (trial_at trials p) in
          subst Q num (subst R s.place t);
    }

-- what is so of an answer, as far as there is one
pub if-ok : {T E : Type 0} (P Q : T → Type 0) (r : Result T E) → ((x : T) → P x → Q x) → IfOk r P → IfOk r Q
if-ok P Q (Ok x) f h = f x h
if-ok P Q (Err e) f h = tt

-- a trial and the linearisation that it found
pub line-of_trial : (u : Classes PyStrInterned) (x : ℕ) (o : Option Trial) (r : Trial) → HasTrial u x o → o ≡ Some r → lin u x ≡ line_tried r
line-of_trial u x None r h e = absurd h
line-of_trial u x (Some q) r h e =
    let same : q ≡ r = cc in
    let P : Trial → Type 0 = λ z. IsTrial u x z in
    found r (subst P same h)
  where
    found : (z : Trial) → IsTrial u x z → lin u x ≡ line_tried z
    found (Line line) t = t
    found (Failed cause) t = t.none
    found Without t = none-without u x t

pub some-trial : (u : Classes PyStrInterned) (x : ℕ) (o : Option Trial) → HasTrial u x o → o ≡ None → ⊥
some-trial u x None h e = h
some-trial u x (Some q) h e = cc

module _ (kept : List StoredClass) (c : ℕ) (bs : List ℕ) (ranked : List Ranked) where
  -- none is tried
  pub tried-start : (trials : List (ℕ × Trial)) → AreTried kept c bs ranked 0 trials
  tried-start trials = record { at = λ j r k l. absurd (omega (arith, l)) }

  -- one more trial
  pub tried-more : (n : ℕ) (trials new : List (ℕ × Trial)) (y : Ranked) (r : Trial) → AreTried kept c bs ranked n trials → slice_get ranked n ≡ Some y → ((i : ℕ) → trial_at new i ≡ cond (eqb y.place i) (Some r) (trial_at trials i)) → ((k : StoredClass) → slice_get kept y.place ≡ Some k → IsTrial (with_bases (classes_of kept) c bs) k.number r) → AreTried kept c bs ranked (n + 1) new
  tried-more n trials new y r tried here noted is = record {
    at = λ j z k l e f. elim (cases_eq y.place z.place) [
      | inl q ↦
          let P : Option Trial → Type 0 = λ o. HasTrial (with_bases (classes_of kept) c bs) k.number o in
          subst P (sym (noted z.place ∙ ap (λ b. cond b (Some r) (trial_at trials z.place)) (eq-eqb y.place z.place q))) (is k (ap (slice_get kept) q ∙ f))
      | inr q ↦
          let P : Option Trial → Type 0 = λ o. HasTrial (with_bases (classes_of kept) c bs) k.number o in
          let other : j ≡ n → ⊥ = λ w. q (let v : slice_get ranked n ≡ Some z = ap (slice_get ranked) (sym w) ∙ e in let s : y ≡ z = cc in ap (λ (x : Ranked). x.place) s) in
          subst P (sym (noted z.place ∙ ap (λ b. cond b (Some r) (trial_at trials z.place)) (ne_eqb y.place z.place q))) (tried.at j z k (omega (arith, l, other)) e f)
    ];
  }

  -- all
  pub tried-end : (n : ℕ) (trials : List (ℕ × Trial)) → AreRanked kept c ranked → AreTried kept c bs ranked n trials → length ranked ≤ n → AreKnown kept c bs trials
  tried-end n trials are tried all = record {
    at = λ i k e d.
        let s = are.all i k e d in
        let w = slice_get_within ranked s.index s.one s.at in
        let P : ℕ → Type 0 = λ p. HasTrial (with_bases (classes_of kept) c bs) k.number (trial_at trials p) in
        subst P s.place (tried.at s.index s.one k (omega (arith, w, all)) s.at (ap (slice_get kept) s.place ∙ e));
  }
