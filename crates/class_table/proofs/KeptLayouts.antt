-- The layout of a class is that of its solid class, and that of its best base with the class itself, if it is solid. Bases that pass every test keep each layout.
use Rattle.class_table.proofs.Below.{ℕ, zero, suc, Bool, true, false, cond, not, eqb, inl, inr, List, [], length, Option, Some, None, refl, sym, ap, ◌∙◌, is_some, option_map, option_and_then, cases_eq, false≢true, linear, Includes, Distinct, Subsequence, Classes, is_class, bases_of, lin, is_along, with_bases, is_empty, is_solid, solid, best_of, base, layout_along, layout, AreSound, Includes-equal, Subsequence-holds, Decides-has, linear-made, linear-zero, all_some-has, some-of, lin-begins, lin-bases, lin-distinct, lin-from, lin-least, lin-member, lin-within, keeps-members, top, best-along, first_best-held, solid-held, AreThere, refused_rebase, bound}
use Rattle.std.proofs.Common.{◌≡◌, ◌∷◌, ◌++◌}
use Rattle.std.proofs.lemmas.List.{append-nil}
use Rattle.class_table.proofs.Rebased.{own-base, past-head, classes-kept}
use Rattle.class_table.proofs.Rebases.{held-some, came, solid-kept}
use Rattle.class_table.proofs.Passed.{facts, sound-passed, order-passed, base-away_passed, base-here_passed}

-- the solid classes of a line, where all of them stand in a part of it
layout-kept : {K : Type 0} (t : Classes K) (l xs : List ℕ) → Subsequence l xs → Distinct xs → ((x : ℕ) → Includes xs x → is_solid t x ≡ true → Includes l x) → layout_along t l ≡ layout_along t xs
layout-kept t [] [] s d h = refl
layout-kept t (z ∷ l) [] s d h = absurd s
layout-kept t [] (y ∷ xs) s d h = go (is_solid t y) refl (layout-kept t [] xs tt d.1 (λ x k. h x (inr k)))
  where
    go : (b : Bool) → is_solid t y ≡ b → [] ≡ layout_along t xs → [] ≡ layout_along t xs ++ cond b (y ∷ []) []
    go true e more = absurd (h y (inl refl) e)
    go false e more = more ∙ sym (append-nil (layout_along t xs))
layout-kept t (z ∷ l) (y ∷ xs) (inl p) d h =
    let more = layout-kept t l xs p.1 d.1 (λ x k q. elim (h x (inr k) q) [ inl i ↦ absurd (d.0 (Includes-equal xs x y (sym (sym p.0 ∙ i)) k)) | inr j ↦ j ]) in
    ap (λ ys. ys ++ cond (is_solid t z) (z ∷ []) []) more ∙ ap (λ y. layout_along t xs ++ cond (is_solid t y) (y ∷ []) []) p.0
layout-kept t (z ∷ l) (y ∷ xs) (inr s) d h = go (is_solid t y) refl (layout-kept t (z ∷ l) xs s d.1 (λ x k q. h x (inr k) q))
  where
    go : (b : Bool) → is_solid t y ≡ b → layout_along t (z ∷ l) ≡ layout_along t xs → layout_along t (z ∷ l) ≡ layout_along t xs ++ cond b (y ∷ []) []
    go true e more = absurd (d.0 (Subsequence-holds (z ∷ l) xs y s (h y (inl refl) e)))
    go false e more = more ∙ sym (append-nil (layout_along t xs))

-- a class's linearisation, and that of its solid class
pub record SolidLine {K : Type 0} (t : Classes K) (c s : ℕ) : Type 0 where
  pub line : List ℕ
  pub own : List ℕ
  pub of_class : lin t c ≡ Some line
  pub of_solid : lin t s ≡ Some own
  pub part : Subsequence own line
  pub once : Distinct line
  pub inside : (x : ℕ) → Includes line x → is_solid t x ≡ true → Includes own x

module _ {K : Type 0} (t : Classes K) (ok : AreSound t) where
  pub solid-line : (c s : ℕ) → is_class t c ≡ true → solid t c ≡ Some s → SolidLine t c s
  solid-line c s there is =
      let line = some-of (lin t c) (ok.order c there) in
      let held = solid-held t c line.0 s line.1 is in
      let own = lin-member t c line.0 s line.1 held in
      record {
        line = line.0;
        own = own.0;
        of_class = line.1;
        of_solid = own.1;
        part = keeps-members t c line.0 s own.0 line.1 held own.1;
        once = lin-distinct t c line.0 line.1;
        inside = λ x h k. (Decides-has own.0 x).0 (ap (is_along x) (sym own.1) ∙ top t ok c line.0 s x line.1 is h k);
      }

  -- the layout of a class is that of its solid class
  pub layout-solid : (c s : ℕ) → is_class t c ≡ true → solid t c ≡ Some s → layout t c ≡ layout t s
  layout-solid c s there is =
      let r = solid-line c s there is in
      let of : Option (List ℕ) → Option (List ℕ) = option_and_then (λ line. Some (layout_along t line)) in
      ap of r.of_class ∙ ap Some (sym (layout-kept t r.own r.line r.part r.once r.inside)) ∙ sym (ap of r.of_solid)

  -- or that of its best base, and then the class itself if it is solid
  layout-based : (x b : ℕ) → is_class t x ≡ true → base t x ≡ Some b → layout t x ≡ option_map (λ l. l ++ cond (is_solid t x) (x ∷ []) []) (layout t b)
  layout-based x b there is = let line = some-of (lin t x) (ok.order x there) in on line.0 line.1
    where
      on : (line : List ℕ) → lin t x ≡ Some line → layout t x ≡ option_map (λ l. l ++ cond (is_solid t x) (x ∷ []) []) (layout t b)
      on [] e = absurd (lin-begins t x [] e)
      on (y ∷ rest) e =
          let least = lin-least t x (y ∷ rest) e in
          let ds = least.bases in
          let best : best_of t ds ≡ Some b = ap (option_and_then (best_of t)) (sym least.of_class) ∙ is in
          let direct = first_best-held t (solid t) ds ds b best in
          let held = lin-bases t x (y ∷ rest) ds b e least.of_class direct in
          let own = lin-member t x (y ∷ rest) b e held in
          let whole = keeps-members t x (y ∷ rest) b own.0 e held own.1 in
          let once = lin-distinct t x (y ∷ rest) e in
          let head : y ≡ x = lin-begins t x (y ∷ rest) e in
          let other : b ≡ y → ⊥ = λ i. own-base t (length t) x ds (y ∷ rest) least.of_class (Includes-equal ds b x (i ∙ head) direct) e in
          let part : Subsequence own.0 rest = past-head t y b own.0 rest (lin-begins t b own.0 own.1) other whole in
          let inside : (z : ℕ) → Includes rest z → is_solid t z ≡ true → Includes own.0 z =
          λ z h k. elim (came t x (y ∷ rest) ds z e least.of_class (inr h)) [
            | inl q ↦ absurd (once.0 (Includes-equal rest z y (sym (head ∙ q)) h))
            | inr o ↦ best-along t ok ds b o.base z own.0 o.line best own.1 o.direct o.of_base o.held k
          ] in
          ap (option_and_then (λ (line : List ℕ). Some (layout_along t line))) e
          ∙ ap (λ l. Some (l ++ cond (is_solid t y) (y ∷ []) [])) (sym (layout-kept t own.0 rest part once.1 inside))
          ∙ ap (λ z. Some (layout_along t own.0 ++ cond (is_solid t z) (z ∷ []) [])) head
          ∙ sym (ap (λ (o : Option (List ℕ)). option_map (λ l. l ++ cond (is_solid t x) (x ∷ []) []) (option_and_then (λ line. Some (layout_along t line)) o)) own.1)

  -- with no base it is the class itself alone
  layout-root : (x : ℕ) → is_class t x ≡ true → base t x ≡ None → layout t x ≡ Some (cond (is_solid t x) (x ∷ []) [])
  layout-root x there none = let line = some-of (lin t x) (ok.order x there) in on line.0 line.1
    where
      zero-test : (w : Bool) → is_some (base t x) ≡ not w → w ≡ true
      zero-test true e = refl
      zero-test false e = absurd (false≢true (sym (ap is_some none) ∙ e))

      on : (line : List ℕ) → lin t x ≡ Some line → layout t x ≡ Some (cond (is_solid t x) (x ∷ []) [])
      on [] e = absurd (lin-begins t x [] e)
      on (y ∷ rest) e =
          let least = lin-least t x (y ∷ rest) e in
          let once = lin-distinct t x (y ∷ rest) e in
          let head : y ≡ x = lin-begins t x (y ∷ rest) e in
          let bare : is_empty least.bases ≡ true = ok.root x least.bases least.of_class ∙ zero-test (eqb x 0) (ok.best x there) in
          let inside : (z : ℕ) → Includes rest z → is_solid t z ≡ true → ⊥ =
          λ z h k. elim (came t x (y ∷ rest) least.bases z e least.of_class (inr h)) [
            | inl q ↦ once.0 (Includes-equal rest z y (sym (head ∙ q)) h)
            | inr o ↦ false≢true (sym (held-some least.bases o.base o.direct) ∙ bare)
          ] in
          ap (option_and_then (λ (line : List ℕ). Some (layout_along t line))) e
          ∙ ap (λ l. Some (l ++ cond (is_solid t y) (y ∷ []) [])) (sym (layout-kept t [] rest tt once.1 inside))
          ∙ ap (λ z. Some (cond (is_solid t z) (z ∷ []) [])) head

  -- a class that is not there has none
  layout-absent : (x : ℕ) → is_class t x ≡ false → layout t x ≡ None
  layout-absent x e = go (lin t x) refl
    where
      go : (o : Option (List ℕ)) → lin t x ≡ o → layout t x ≡ None
      go None h = ap (option_and_then (λ (line : List ℕ). Some (layout_along t line))) h
      go (Some line) h = absurd (false≢true (sym e ∙ lin-within t x line h))

module _ {K : Type 0} (t : Classes K) (ok : AreSound t) (c : ℕ) (bs : List ℕ) (here : is_class t c ≡ true) (held : AreThere t bs) (e : refused_rebase t c bs ≡ None) where
  sound : AreSound (with_bases t c bs)
  sound = sound-passed t ok c bs here held e

  -- the layouts of the best bases of now and then are one
  best-layouts : (d b : ℕ) → base (with_bases t c bs) c ≡ Some d → base t c ≡ Some b → layout t d ≡ layout t b
  best-layouts d b new old =
      let f = facts t ok c bs here held e in
      let d-is : f.new_best ≡ d = let q = base-here_passed t ok c bs here held e f.new_best f.is_new in cc in
      let b-is : f.old_best ≡ b = let q = f.is_old in cc in
      let of = bound (best_of t) (bases_of t c) b old in
      let there-new : is_class t d ≡ true = ap (is_class t) (sym d-is) ∙ f.there f.new_best (first_best-held t (solid t) bs bs f.new_best f.is_new) in
      let there-old : is_class t b ≡ true = ok.there c b of.0 of.1 (first_best-held t (solid t) of.0 of.0 b of.2) in
      layout-solid t ok d f.top there-new (ap (solid t) (sym d-is) ∙ f.top_new) ∙ sym (layout-solid t ok b f.top there-old (ap (solid t) (sym b-is) ∙ f.top_old))

  -- a class whose best bases of now and then have one layout
  goes-on : (x d b : ℕ) → is_class t x ≡ true → base (with_bases t c bs) x ≡ Some d → base t x ≡ Some b → layout (with_bases t c bs) d ≡ layout t b → layout (with_bases t c bs) x ≡ layout t x
  goes-on x d b there new old same =
      layout-based (with_bases t c bs) sound x d (classes-kept t c bs x ∙ there) new
      ∙ ap (λ w. option_map (λ l. l ++ cond w (x ∷ []) []) (layout (with_bases t c bs) d)) (solid-kept t c bs x)
      ∙ ap (option_map (λ l. l ++ cond (is_solid t x) (x ∷ []) [])) same
      ∙ sym (layout-based t ok x b there old)

  -- the best base is less deep
  below : (m x b : ℕ) (line : List ℕ) → linear (bases_of (with_bases t c bs)) (suc m) x ≡ Some line → base (with_bases t c bs) x ≡ Some b → (l : List ℕ) × (linear (bases_of (with_bases t c bs)) m b ≡ Some l)
  below m x b line l is =
      let u = with_bases t c bs in
      let made = linear-made (bases_of u) m x line l in
      let best : best_of u made.direct ≡ Some b = ap (option_and_then (best_of u)) (sym made.of_class) ∙ is in
      let r = all_some-has (linear (bases_of u) m) made.direct made.lines b made.of_bases (first_best-held u (solid u) made.direct made.direct b best) in
      (r.0, r.2)

  step : (m x : ℕ) (line : List ℕ) → is_class t x ≡ true → linear (bases_of (with_bases t c bs)) (suc m) x ≡ Some line → ((b : ℕ) (l : List ℕ) → linear (bases_of (with_bases t c bs)) m b ≡ Some l → layout (with_bases t c bs) b ≡ layout t b) → layout (with_bases t c bs) x ≡ layout t x
  step m x line there l more = elim (cases_eq x c) [
    | inl i ↦
        let f = facts t ok c bs here held e in
        let new : base (with_bases t c bs) c ≡ Some f.new_best = base-here_passed t ok c bs here held e f.new_best f.is_new in
        let new-at : base (with_bases t c bs) x ≡ Some f.new_best = ap (base (with_bases t c bs)) i ∙ new in
        let r = below m x f.new_best line l new-at in
        goes-on x f.new_best f.old_best there new-at (ap (base t) i ∙ f.is_old) (more f.new_best r.0 r.1 ∙ best-layouts f.new_best f.old_best new f.is_old)
    | inr n ↦ away n (base t x) refl
  ]
    where
      away : (x ≡ c → ⊥) → (o : Option ℕ) → base t x ≡ o → layout (with_bases t c bs) x ≡ layout t x
      away n (Some b) q =
          let new : base (with_bases t c bs) x ≡ Some b = base-away_passed t ok c bs here held e x n ∙ q in
          let r = below m x b line l new in
          goes-on x b b there new q (more b r.0 r.1)
      away n None q =
          layout-root (with_bases t c bs) sound x (classes-kept t c bs x ∙ there) (base-away_passed t ok c bs here held e x n ∙ q)
          ∙ ap (λ w. Some (cond w (x ∷ []) [])) (solid-kept t c bs x)
          ∙ sym (layout-root t ok x there q)

  deep : (m x : ℕ) (line : List ℕ) → linear (bases_of (with_bases t c bs)) m x ≡ Some line → layout (with_bases t c bs) x ≡ layout t x
  deep zero x line l = absurd (linear-zero (bases_of (with_bases t c bs)) x line l)
  deep (suc m) x line l =
      step m x line (sym (classes-kept t c bs x) ∙ lin-within (with_bases t c bs) x line (lin-from (with_bases t c bs) (suc m) x line l)) l (λ b k h. deep m b k h)

  -- each class keeps its layout
  pub layout-passed : (x : ℕ) → layout (with_bases t c bs) x ≡ layout t x
  layout-passed x = go (is_class t x) refl
    where
      go : (w : Bool) → is_class t x ≡ w → layout (with_bases t c bs) x ≡ layout t x
      go true there =
          let r = some-of (lin (with_bases t c bs) x) (order-passed t ok c bs here held e x there) in
          deep (length (with_bases t c bs)) x r.0 r.1
      go false away = layout-absent (with_bases t c bs) sound x (classes-kept t c bs x ∙ away) ∙ sym (layout-absent t ok x away)
