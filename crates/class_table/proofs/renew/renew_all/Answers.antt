use Rattle.class_table.proofs.Lemmas.{ℕ, [], length, get_or, Some, inl, inr, sym, ap, subst, ◌∙◌, arith, slice_get, length-append, slice_get-get_or, with_bases, Renewed, numbers, classes_of, IsRenewed, get-push_cases, Includes-in}
use Rattle.std.proofs.Common.{◌≡◌, ◌∷◌}
use Rattle.class_table.proofs.renew.renew_all.Goals as goal

pub renew_at-requires-clause-inside : goal.renew_at-requires-clause-inside
renew_at-requires-clause-inside c = c.requires.inside _ (Includes-in c.args.places.now c.loop-place.place-index 0 c.loop-place-test.true)

pub loop-place-preserved : goal.loop-place-preserved
loop-place-preserved c =
    let kept = c.args.change.classes.now in
    let u = with_bases (classes_of kept) c.args.change.class.0 (numbers c.args.change.bases.now) in
    let places = c.args.places.now in
    let at = c.loop-place.place-index in
    let p : ℕ = get_or places at 0 in
    let here : slice_get places at ≡ Some p = slice_get-get_or places at 0 c.loop-place-test.true in
    let before = c.loop-place.all.items in
    let y = c.in_ok-renewed.renewed in
    let items = c.in_ok-push.ensures.items in
    let count = c.loop-place.invariant.count in
    let more = length-append before (y ∷ []) in
    record {
      count = ap length items ∙ omega (arith, count, more);
      each = λ j i k r q e f. elim (get-push_cases before y j r (ap (λ ys. slice_get ys j) (sym items) ∙ f)) [
        | inl a ↦ c.loop-place.invariant.each j i k r q e a
        | inr b ↦
            let same : i ≡ p = let v : slice_get places at ≡ Some i = ap (slice_get places) (sym (b.0 ∙ count)) ∙ q in cc in
            let Q : Renewed → Type 0 = λ z. IsRenewed u k.number z in
            subst Q b.1 (c.in_ok-renewed.ensures k (ap (slice_get kept) (sym same) ∙ e))
      ];
    }
