use Rattle.order_check.proofs.Lemmas.{[], map, ap, ◌∙◌, arith, map-append, length-map, shown, class_shown, order-same, all-same, keyed-same}
use Rattle.std.proofs.Common.{◌∷◌}
use Rattle.order_check.proofs.ClassOrders.Same.{one-more, taken}
use Rattle.order_check.proofs.class_orders.hierarchy_of.Goals as goal

pub loop-place-preserved : goal.loop-place-preserved
loop-place-preserved c =
    let es = c.loop-place.entries.items in
    let e = c.in_ok-entry_of.field-0 in
    ap (map shown) c.in_ok-push.ensures.items
    ∙ map-append shown es (e ∷ [])
    ∙ one-more c.args.table.now es c.loop-place.place c.number_at-class.result.0 e c.sound.ensures.sound.ascending c.number_at-class.ensures.number c.in_ok-entry_of.ensures c.loop-place.invariant

pub returns : goal.returns
returns c =
    let es = c.loop-place.entries.items in
    let t = c.args.table.now in
    let whole = taken (map class_shown t) c.loop-place.place (omega (arith, length-map t class_shown, c.loop-place-test.false, c.len-place-end.ensures)) in
    let same = c.loop-place.invariant ∙ whole in
    record {
      classes = same;
      keyed = keyed-same es t same c.sound.ensures.sound.ascending;
      order = order-same es t same;
      all = all-same es t same;
    }
