-- Bases for a class that pass every test.
use Rattle.class_table.proofs.Below.{ℕ, Bool, true, false, cond, not, List, [], Option, Some, None, inl, inr, refl, sym, ap, ◌∙◌, is_some, option_map, option_and_then, option_or, eqb-true, ne_eqb, Cause, EmptyBases, InheritanceCycle, LayoutDiffers, DuplicateBase, is_distinct, Distinct, Includes, Classes, is_class, bases_of, lin, is_sub, NoneIsBlamed, with_bases, failing, is_empty, solid, best_of, base, keeps_dict, AreSound, some-of, Decides-distinct, first_best-held, failing-none, refused_attr, refused_layout, most_derived, AreThere, any_derives, is_same, unless, refused_change, refused_rebase, Refusal, bound}
use Rattle.std.proofs.Common.{◌≡◌, ◌||◌, ◌∷◌}
use Rattle.class_table.proofs.Bests.{best-there}
use Rattle.class_table.proofs.Rebased.{not-root, order-rebased}
use Rattle.class_table.proofs.Rebases.{sound-rebased, solid-rebased, base-away, base-here}

pub either-none : {A : Type 0} (a b : Option A) → option_or a b ≡ None → (a ≡ None) × (b ≡ None)
either-none None b e = (refl, e)
either-none (Some x) b e = cc

pub map-none : {A B : Type 0} (f : A → B) (o : Option A) → option_map f o ≡ None → o ≡ None
map-none f None e = refl
map-none f (Some x) e = cc

not-told : (w : Bool) (cause : Cause) → cond w (Some cause) None ≡ None → w ≡ false
not-told true cause e = cc
not-told false cause e = refl

passed : (w : Bool) (cause : Cause) → unless w cause ≡ None → w ≡ true
passed true cause e = refl
passed false cause e = cc

or-false : (a b : Bool) → (a || b) ≡ false → (a ≡ false) × (b ≡ false)
or-false true b e = cc
or-false false b e = (refl, e)

pub none-derives : {K : Type 0} (t : Classes K) (c : ℕ) (bs : List ℕ) → any_derives t bs c ≡ false → (b : ℕ) → Includes bs b → is_sub t b c ≡ false
none-derives t c [] e b h = absurd h
none-derives t c (x ∷ bs) e b (inl q) = ap (λ z. is_sub t z c) (sym q) ∙ (or-false (is_sub t x c) (any_derives t bs c) e).0
none-derives t c (x ∷ bs) e b (inr h) = none-derives t c bs (or-false (is_sub t x c) (any_derives t bs c) e).1 b h

each-there : {K : Type 0} (t : Classes K) (bs : List ℕ) → AreThere t bs → (b : ℕ) → Includes bs b → is_class t b ≡ true
each-there t [] l b h = absurd h
each-there t (x ∷ bs) l b (inl q) = ap (is_class t) (sym q) ∙ l.0
each-there t (x ∷ bs) l b (inr h) = each-there t bs l.1 b h

-- the tests that were passed
pub record Passed {K : Type 0} (t : Classes K) (c : ℕ) (bs : List ℕ) : Type 0 where
  apart : any_derives t bs c ≡ false
  layout : refused_layout t bs ≡ None
  same : is_same (most_derived t bs) (option_and_then (solid t) (base t c)) ≡ true
  dict : keeps_dict t c bs ≡ true
  orders : failing t c bs ≡ None

pub passed-all : {K : Type 0} (t : Classes K) (c : ℕ) (bs : List ℕ) → refused_rebase t c bs ≡ None → Passed t c bs
passed-all t c bs e =
    let early : Option Refusal = option_map (λ cause. (cause, None)) (refused_change t c bs) in
    let late : Option Refusal = option_map (λ r. (r.1, Some r.0)) (failing t c bs) in
    let both = either-none early late e in
    let change = map-none {B = Refusal} (λ (cause : Cause). (cause, None)) (refused_change t c bs) both.0 in
    let a = either-none (refused_attr t c) _ change in
    let b = either-none (cond (is_empty bs) (Some EmptyBases) None) _ a.1 in
    let d = either-none (cond (any_derives t bs c) (Some InheritanceCycle) None) _ b.1 in
    let f = either-none (refused_layout t bs) _ d.1 in
    let g = either-none (unless (is_same (most_derived t bs) (option_and_then (solid t) (base t c))) LayoutDiffers) _ f.1 in
    let m = either-none (unless (keeps_dict t c bs) LayoutDiffers) _ g.1 in
    record {
      apart = not-told (any_derives t bs c) InheritanceCycle d.0;
      layout = f.0;
      same = passed (is_same (most_derived t bs) (option_and_then (solid t) (base t c))) LayoutDiffers g.0;
      dict = passed (keeps_dict t c bs) LayoutDiffers m.0;
      orders = map-none {B = Refusal} (λ (r : ℕ × Cause). (r.1, Some r.0)) (failing t c bs) both.1;
    }

-- those that need no order
pub early-passed : {K : Type 0} (t : Classes K) (c : ℕ) (bs : List ℕ) → refused_change t c bs ≡ None → (any_derives t bs c ≡ false) × Distinct bs
early-passed t c bs e =
    let a = either-none (refused_attr t c) _ e in
    let b = either-none (cond (is_empty bs) (Some EmptyBases) None) _ a.1 in
    let d = either-none (cond (any_derives t bs c) (Some InheritanceCycle) None) _ b.1 in
    let f = either-none (refused_layout t bs) _ d.1 in
    let g = either-none (unless (is_same (most_derived t bs) (option_and_then (solid t) (base t c))) LayoutDiffers) _ f.1 in
    let m = either-none (unless (keeps_dict t c bs) LayoutDiffers) _ g.1 in
    (not-told (any_derives t bs c) InheritanceCycle d.0, (Decides-distinct bs).0 (passed (is_distinct bs) DuplicateBase m.1))

-- what follows of bases that passed them
pub record Facts {K : Type 0} (t : Classes K) (c : ℕ) (bs : List ℕ) : Type 0 where
  pub none : NoneIsBlamed (with_bases t c bs)
  pub there : (b : ℕ) → Includes bs b → is_class t b ≡ true
  pub apart : (b : ℕ) → Includes bs b → is_sub t b c ≡ false
  pub new_best : ℕ
  pub old_best : ℕ
  pub top : ℕ
  pub is_new : best_of t bs ≡ Some new_best
  pub is_old : base t c ≡ Some old_best
  pub top_new : solid t new_best ≡ Some top
  pub top_old : solid t old_best ≡ Some top
  pub dict : keeps_dict t c bs ≡ true

module _ {K : Type 0} (t : Classes K) (ok : AreSound t) (c : ℕ) (bs : List ℕ) (here : is_class t c ≡ true) (held : AreThere t bs) (e : refused_rebase t c bs ≡ None) where
  pub facts : Facts t c bs
  facts =
      let p = passed-all t c bs e in
      let none = (failing-none t c bs ok.ascending).0 p.orders in
      let there = each-there t bs held in
      let apart = none-derives t c bs p.apart in
      let d = best-there t ok bs held p.layout in
      let first = first_best-held t (solid t) bs bs d.0 d.1 in
      let away : c ≡ 0 → ⊥ = not-root t c bs none ok here there apart d.0 first in
      let old = some-of (base t c) (ok.best c here ∙ ap not (ne_eqb c 0 away)) in
      let of = bound (best_of t) (bases_of t c) old.0 old.1 in
      let s = some-of (solid t d.0) (ok.solid d.0 (there d.0 first)) in
      let r = some-of (solid t old.0) (ok.solid old.0 (ok.there c old.0 of.0 of.1 (first_best-held t (solid t) of.0 of.0 old.0 of.2))) in
      let tops : is_same (Some s.0) (Some r.0) ≡ true =
      sym (ap (λ o. is_same o (option_and_then (solid t) (base t c))) (ap (option_and_then (solid t)) d.1 ∙ s.1) ∙ ap (is_same (Some s.0)) (ap (option_and_then (solid t)) old.1 ∙ r.1)) ∙ p.same in
      let same : s.0 ≡ r.0 = eqb-true s.0 r.0 tops in
      record { none = none; there = there; apart = apart; new_best = d.0; old_best = old.0; top = s.0; is_new = d.1; is_old = old.1; top_new = s.1; top_old = r.1 ∙ ap Some (sym same); dict = p.dict }

  pub sound-passed : AreSound (with_bases t c bs)
  sound-passed = let f = facts in sound-rebased t c bs f.none ok here f.there f.apart f.new_best f.old_best f.top f.is_new f.is_old f.top_new f.top_old f.dict

  pub order-passed : (x : ℕ) → is_class t x ≡ true → is_some (lin (with_bases t c bs) x) ≡ true
  order-passed x l = let f = facts in order-rebased t c bs f.none ok here f.there f.apart x l

  pub solid-passed : (x : ℕ) → is_class t x ≡ true → solid (with_bases t c bs) x ≡ solid t x
  solid-passed x l = let f = facts in solid-rebased t c bs f.none ok here f.there f.apart f.new_best f.old_best f.top f.is_new f.is_old f.top_new f.top_old x l

  pub base-away_passed : (x : ℕ) → (x ≡ c → ⊥) → base (with_bases t c bs) x ≡ base t x
  base-away_passed x n = let f = facts in base-away t c bs f.none ok here f.there f.apart f.new_best f.old_best f.top f.is_new f.is_old f.top_new f.top_old x n

  pub base-here_passed : (d : ℕ) → best_of t bs ≡ Some d → base (with_bases t c bs) c ≡ Some d
  base-here_passed d q = let f = facts in base-here t c bs f.none ok here f.there f.apart f.new_best f.old_best f.top f.is_new f.is_old f.top_new f.top_old ∙ sym f.is_new ∙ q
