use Rattle.order_check.proofs.Lemmas.{length, get_or, refl, ap, slice_get_read, orders_told, bases-at, told-of, right-at}
use Rattle.std.proofs.Common.{◌+◌}
use Rattle.order_check.proofs.accepting.is_right.Goals as goal

pub is_line-requires-clause-class : goal.is_line-requires-clause-class
is_line-requires-clause-class c =
    let h = c.args.told.entries.now in
    bases-at h (c.args.place + 1) (get_or h (c.args.place + 1) c.index-told-place.result) c.requires.order.keyed c.requires.inside (ap (get_or h (c.args.place + 1)) c.index-told-place.is)

pub is_line-requires-clause-told : goal.is_line-requires-clause-told
is_line-requires-clause-told c =
    let h = c.args.told.entries.now in
    let e = get_or h (c.args.place + 1) c.index-told-place.result in
    told-of h (orders_told c.args.told.root.now c.args.told.lines.now) (c.args.place + 1) e c.requires.order (slice_get_read h (length h) (c.args.place + 1) e refl c.requires.inside (ap (get_or h (c.args.place + 1)) c.index-told-place.is)) c.requires.told

pub returns : goal.returns
returns c =
    let h = c.args.told.entries.now in
    let lines = c.args.told.lines.now in
    let e = get_or h (c.args.place + 1) c.index-told-place.result in
    let x = get_or lines c.args.place c.index-told-place-2.result in
    right-at h lines c.args.place e x c.is_line.result
    (slice_get_read h (length h) (c.args.place + 1) e refl c.requires.inside (ap (get_or h (c.args.place + 1)) c.index-told-place.is))
    (slice_get_read lines (length lines) c.args.place x refl c.if-place-told.false (ap (get_or lines c.args.place) c.index-told-place-2.is))
    c.is_line.ensures
