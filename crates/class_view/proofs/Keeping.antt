-- A step that only adds to the published list keeps the rule.
use Rattle.class_view.proofs.Below.{ℕ, List, [], fold, set, refl, sym, ap, ◌∙◌, subst, ⊎_elim, append_assoc, append-nil, rules, Admits, TurnsAt, Forks, Merges, at_set, at_snoc, Change, View, BeginsWith, Keeps, Shows, newcomer}
use Rattle.std.proofs.Common.{◌≡◌, ◌≢◌, ◌∷◌, ◌++◌}
use mathlib.Core.Option.{some}
use lib.ListN.{get_elem?}

pub begins_self : {A : Type 0} (xs : List A) → BeginsWith xs xs
begins_self xs = ([], append-nil xs)

pub begins_more : {A : Type 0} (xs ys zs : List A) → BeginsWith xs ys → BeginsWith ys zs → BeginsWith xs zs
begins_more xs ys zs a b = (a.0 ++ b.0, sym (append_assoc xs a.0 b.0) ∙ ap (λ t. t ++ b.0) a.1 ∙ b.1)

pub admits : Admits Keeps newcomer
admits x views h seat v at = ⊎_elim (h seat v) (λ (e : newcomer ≡ v). subst (λ (w : View). BeginsWith w.seen x) e (x, refl)) (at_snoc views newcomer v seat at)

pub opens : (x : List Change) → Keeps x (newcomer ∷ [])
opens x seat v at = admits x [] (λ seat v at. absurd (search rules)) seat v at

pub rises : (seat : ℕ) (v : View) (x y : List Change) → BeginsWith x y → TurnsAt Keeps seat v x y Shows
rises seat v x y up views h at =
    let w : View = record { seen = y } in (
      w,
      (λ j u e. ⊎_elim (λ (t : (j ≡ seat) × (w ≡ u)). subst (λ (z : View). BeginsWith z.seen y) t.1 (begins_self y)) (λ (t : (j ≢ seat) × (get_elem? views j ≡ some u)). begins_more u.seen x y (h j u t.1) up)
          (at_set views seat j w u e)),
      (begins_more v.seen x y (h seat v at) up, refl),
    )

pub fold_adds : {A : Type 0} (xs ys : List A) → fold (λ (zs : List A) (z : A). zs ++ z ∷ []) xs ys ≡ xs ++ ys
fold_adds xs [] = sym (append-nil xs)
fold_adds xs (y ∷ ys) = fold_adds (xs ++ y ∷ []) ys ∙ append_assoc xs (y ∷ []) ys

-- one view changes to another that fits
set_fits : (x : List Change) (views : List View) (seat : ℕ) (w : View) → Keeps x views → BeginsWith w.seen x → Keeps x (set views seat w)
set_fits x views seat w h fits j u e = ⊎_elim (λ (t : (j ≡ seat) × (w ≡ u)). subst (λ (z : View). BeginsWith z.seen x) t.1 fits) (λ (t : (j ≢ seat) × (get_elem? views j ≡ some u)). h j u t.1) (at_set views seat j w u e)

pub forks : (seat : ℕ) (v : View) → Forks Keeps seat v v v
forks seat v x views h at j u e = ⊎_elim (set_fits x views seat v h (h seat v at) j u) (λ (same : v ≡ u). subst (λ (z : View). BeginsWith z.seen x) same (h seat v at)) (at_snoc (set views seat v) v u j e)

pub merges : (seat : ℕ) (v : View) (other : ℕ) (w : View) → Merges Keeps seat v other w w newcomer
merges seat v other w x views h at apart there =
    let b : BeginsWith w.seen x = ⊎_elim (λ (t : (other ≡ seat) × (w ≡ w)). absurd (apart t.0)) (λ (t : (other ≢ seat) × (get_elem? views other ≡ some w)). h other w t.1) (at_set views seat other w w there) in
    set_fits x (set views seat w) other newcomer (set_fits x views seat w h b) (x, refl)
