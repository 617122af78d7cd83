use Rattle.class_table.proofs.Lemmas.{ℕ, List, eqb, Option, Some, None, IfSome, IfNone, position, sym, ap, subst, ◌∙◌, slice_get, is_some, list_any, eqb-true, false≢true, position-Some, slice_get-get_or, Distinct, Includes, Decides-has, any-has, distinct-keys}
use Rattle.std.proofs.Common.{◌≡◌}
use Rattle.class_table.proofs.place_set.PlaceSet.index_of.Goals as goal

there : (ks : List ℕ) (p : ℕ) (o : Option ℕ) → o ≡ position (eqb p) ks → IfSome o (λ j. slice_get ks j ≡ Some p)
there ks p None e = tt
there ks p (Some j) e =
    let w = position-Some (eqb p) ks j 0 (sym e) in
    slice_get-get_or ks j 0 w.0 ∙ ap Some (sym (eqb-true p _ w.1))

away : (ks : List ℕ) (p : ℕ) (o : Option ℕ) → is_some o ≡ list_any (eqb p) ks → IfNone o (Includes ks p → ⊥)
away ks p None e = λ h. false≢true (e ∙ any-has ks p ∙ (Decides-has ks p).1 h)
away ks p (Some j) e = tt

pub returns-clause-there : goal.returns-clause-there
returns-clause-there c =
    let P : List ℕ → Type 0 = λ ks. IfSome c.get_index_of.result (λ j. slice_get ks j ≡ Some c.args.place) in
    subst P c.self.view_is (there c.self.inside.places.keys c.args.place c.get_index_of.result c.get_index_of.ensures.index)

pub returns-clause-none : goal.returns-clause-none
returns-clause-none c =
    let P : List ℕ → Type 0 = λ ks. IfNone c.get_index_of.result (Includes ks c.args.place → ⊥) in
    subst P c.self.view_is (away c.self.inside.places.keys c.args.place c.get_index_of.result c.get_index_of.ensures.found)

pub returns-clause-distinct : goal.returns-clause-distinct
returns-clause-distinct c = subst Distinct c.self.view_is (distinct-keys c.self.inside.places.keys c.len-count.ensures.unique)
