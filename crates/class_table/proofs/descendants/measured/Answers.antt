use Rattle.class_table.proofs.Lemmas.{[], length, get_or, sym, ap, ◌∙◌, arith, slice_get, length-append, slice_get-get_or, Ranked, Includes-in, measured-more}
use Rattle.std.proofs.Common.{◌∷◌}
use Rattle.class_table.proofs.descendants.measured.Goals as goal

pub length_at-requires : goal.length_at-requires
length_at-requires c = c.requires _ (Includes-in c.args.places.now c.loop-place.place-index 0 c.loop-place-test.true)

pub loop-place-preserved : goal.loop-place-preserved
loop-place-preserved c =
    let places = c.args.places.now in
    let i = c.loop-place.place-index in
    let before = c.loop-place.ranked.items in
    let y : Ranked = record { place = get_or places i 0; length = c.length_at.result } in
    let items = c.in_ok-push.ensures.items in
    let count = c.loop-place.invariant.count in
    let more = length-append before (y ∷ []) in
    record {
      count = ap length items ∙ omega (arith, count, more);
      at = λ j r e. measured-more c.args.classes.now places before i y count c.loop-place.invariant.at (slice_get-get_or places i 0 c.loop-place-test.true) c.length_at.ensures j r (ap (λ ys. slice_get ys j) (sym items) ∙ e);
    }
