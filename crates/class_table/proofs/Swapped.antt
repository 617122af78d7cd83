-- What other bases make of some classes, put in its place.
use Rattle.class_table.proofs.Below.{ℕ, zero, suc, List, [], length, get_or, set, Some, inl, inr, refl, sym, ap, ◌∙◌, arith, slice_get, cases_eq, length-set, slice_get_within, Distinct, Includes-equal, numbers, StoredClass, Renewed, with_renewed, renewed_but_line, AreSwapped}
use Rattle.std.proofs.Common.{◌≡◌, ◌+◌, ◌<◌, ◌≤◌, ◌∷◌}
use Rattle.class_table.specs.Keys.{number_of}
use Rattle.class_table.proofs.Places.{get-set_at, get-set_away}
use Rattle.class_table.proofs.Trials.{read-is}
use Rattle.class_table.proofs.Descended.{Includes-at}

-- in a list without repeats an element has one place
pub distinct-at : (ps : List ℕ) → Distinct ps → (i j p : ℕ) → slice_get ps i ≡ Some p → slice_get ps j ≡ Some p → i ≡ j
distinct-at [] d i j p e f = cc
distinct-at (x ∷ ps) d zero zero p e f = refl
distinct-at (x ∷ ps) d zero (suc j) p e f = let q : p ≡ x = cc in absurd (d.0 (Includes-equal ps p x q (Includes-at ps j p f)))
distinct-at (x ∷ ps) d (suc i) zero p e f = let q : p ≡ x = cc in absurd (d.0 (Includes-equal ps p x q (Includes-at ps i p e)))
distinct-at (x ∷ ps) d (suc i) (suc j) p e f = ap suc (distinct-at ps d.1 i j p e f)

-- the classes at the first of some places got it
pub record Swapping (orig : List Renewed) (old : List StoredClass) (places : List ℕ) (n : ℕ) (renewed : List Renewed) (cur : List StoredClass) : Type 0 where
  pub count : length cur ≡ length old
  pub left : length renewed ≡ length orig
  pub rest : (i : ℕ) (r : Renewed) → n ≤ i → slice_get orig i ≡ Some r → slice_get renewed i ≡ Some r
  pub before : (j i : ℕ) (k : StoredClass) (r : Renewed) → j < n → slice_get places j ≡ Some i → slice_get old i ≡ Some k → slice_get orig j ≡ Some r → slice_get cur i ≡ Some (with_renewed r k)
  pub after : (i : ℕ) (k : StoredClass) → ((j : ℕ) → j < n → slice_get places j ≡ Some i → ⊥) → slice_get old i ≡ Some k → slice_get cur i ≡ Some k

pub swapping-start : (orig : List Renewed) (old : List StoredClass) (places : List ℕ) → Swapping orig old places 0 orig old
swapping-start orig old places = record { count = refl; left = refl; rest = λ i r l e. e; before = λ j i k r l p e f. absurd (omega (arith, l)); after = λ i k h e. e }

module _ (orig : List Renewed) (old : List StoredClass) (places : List ℕ) (n : ℕ) (renewed : List Renewed) (cur : List StoredClass) (s : Swapping orig old places n renewed cur) where
  -- one more
  pub swapping-next : Distinct places → (p : ℕ) → slice_get places n ≡ Some p → p < length cur → (x : StoredClass) (y : Renewed) (z : StoredClass) (back : Renewed) → x ≡ get_or cur p x → y ≡ get_or renewed n y → z ≡ with_renewed y x → Swapping orig old places (n + 1) (set renewed n back) (set cur p z)
  swapping-next d p here l x y z back hx hy is = record {
    count = length-set cur p z ∙ s.count;
    left = length-set renewed n back ∙ s.left;
    rest = λ i r m e. get-set_away renewed n back i (λ q. omega (arith, m, q)) ∙ s.rest i r (omega (arith, m)) e;
    before = λ j i k r m q e f. elim (cases_eq j n) [
      | inl w ↦
          let same : i ≡ p = let v : slice_get places n ≡ Some i = ap (slice_get places) (sym w) ∙ q in cc in
          let old-k = s.after p k (λ j2 m2 q2. let t = distinct-at places d j2 n p q2 here in omega (arith, m2, t)) (ap (slice_get old) (sym same) ∙ e) in
          let old-r = s.rest n r (omega arith) (ap (slice_get orig) (sym w) ∙ f) in
          ap (slice_get (set cur p z)) same
          ∙ get-set_at cur p z l
          ∙ ap Some (is ∙ ap (λ v. with_renewed v x) (read-is renewed n y r hy old-r) ∙ ap (with_renewed r) (read-is cur p x k hx old-k))
      | inr w ↦
          get-set_away cur p z i (λ v. w (distinct-at places d j n p (q ∙ ap Some v) here)) ∙ s.before j i k r (omega (arith, m, w)) q e f
    ];
    after = λ i k h e.
        get-set_away cur p z i (λ v. h n (omega arith) (here ∙ ap Some (sym v))) ∙ s.after i k (λ j m q. h j (omega (arith, m)) q) e;
  }

  -- the class at the next place has its linearisation already, where each had it before
  pub swapping-line : Distinct places → (p : ℕ) → slice_get places n ≡ Some p → (k : StoredClass) → slice_get old p ≡ Some k → (r : Renewed) → slice_get orig n ≡ Some r → k.mro ≡ numbers r.mro.items → (x : StoredClass) (y : Renewed) → x ≡ get_or cur p x → y ≡ get_or renewed n y → x.mro ≡ numbers y.mro.items
  swapping-line d p here k at-k r at-r line x y hx hy =
      let old-k = s.after p k (λ j m q. let t = distinct-at places d j n p q here in omega (arith, m, t)) at-k in
      let old-r = s.rest n r (omega arith) at-r in
      ap (λ (z : StoredClass). z.mro) (read-is cur p x k hx old-k) ∙ line ∙ ap (λ (z : Renewed). numbers z.mro.items) (sym (read-is renewed n y r hy old-r))

  -- all
  pub swapping-end : length places ≤ n → AreSwapped places orig old cur
  swapping-end l = record {
    count = s.count;
    at = λ j i k r q e f. s.before j i k r (let m = slice_get_within places j i q in omega (arith, l, m)) q e f;
    away = λ i k h e. s.after i k (λ j m q. h (Includes-at places j i q)) e;
  }

-- a class that has its linearisation already
pub but-line : (r : Renewed) (k : StoredClass) → k.mro ≡ numbers r.mro.items → renewed_but_line r k ≡ with_renewed r k
but-line r k e = ap (λ (line : List ℕ). record k { mro = line; base = number_of r.base; subclasses = numbers r.subclasses.items; places = r.places }) e
