use Rattle.class_table.proofs.Lemmas.{refl, ℕ, List, Some, None, sym, ap, ◌∙◌, is_some, IsSome, option_map, PyStrInterned, Classes, failing, numbers, Refusal, refused_change, refused_rebase, either-none, map-none}
use Rattle.std.proofs.Common.{◌≡◌}
use Rattle.class_table.proofs.rebase.rebase.Goals as goal

-- a change that is not refused passed the tests that need no order
not-early : (t u : Classes PyStrInterned) (c : ℕ) (bs ds : List ℕ) → t ≡ u → bs ≡ ds → None ≡ refused_rebase t c bs → IsSome (refused_change u c ds) → ⊥
not-early t u c bs ds p q none some =
    let early = either-none (option_map {U = Refusal} (λ cause. (cause, None)) (refused_change t c bs)) (option_map {U = Refusal} (λ r. (r.1, Some r.0)) (failing t c bs)) (sym none) in
    let passed = map-none (λ cause. (cause, None)) (refused_change t c bs) early.0 in
    let same : refused_change u c ds ≡ None = ap (λ (z : Classes PyStrInterned). refused_change z c ds) (sym p) ∙ ap (refused_change t c) (sym q) ∙ passed in
    cc (ap is_some same, some)

pub returns-clause-uncounted : goal.returns-clause-uncounted
returns-clause-uncounted g c = λ some.
    absurd (not-early _ _ c.args.class.0 _ _ refl (ap numbers c.deref.ensures.value) c.in-Ok.ensures.refused some)
