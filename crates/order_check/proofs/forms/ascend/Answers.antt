use Rattle.order_check.proofs.Lemmas.{length, get_or, ap, arith, keys_of, ascend-none, ascend-more, ascend-less, key-at}
use Rattle.std.proofs.Common.{◌-◌, ◌<◌}
use Rattle.order_check.proofs.forms.ascend.Goals as goal

pub loop-place-init : goal.loop-place-init
loop-place-init c = ascend-none (keys_of c.args.entries.now)

pub loop-place-preserved : goal.loop-place-preserved
loop-place-preserved c =
    let h = c.args.entries.now in
    let place = c.loop-place.place in
    let some : 0 < c.loop-place.place = omega (arith, c.loop-place.auto.place) in
    let within : c.loop-place.place - 1 < length c.args.entries.now = omega (arith, c.loop-place-test.true) in
    let here = key-at h place (get_or h place c.index-entries-place.result) c.loop-place-test.true (ap (get_or h place) c.index-entries-place.is) in
    let before = key-at h (place - 1) (get_or h (place - 1) c.index-entries-place-in-loop-place.result) within (ap (get_or h (place - 1)) c.index-entries-place-in-loop-place.is) in
    let less : get_or (keys_of c.args.entries.now) (c.loop-place.place - 1) 0 < get_or (keys_of c.args.entries.now) c.loop-place.place 0 = omega (arith, here, before, c.if-entries-place.false) in
    ascend-more (keys_of h) place c.loop-place.invariant some less

pub returns : goal.returns
returns c = λ _. ascend-less (keys_of c.args.entries.now) c.loop-place.place (length c.args.entries.now) c.loop-place.invariant c.loop-place-test.false
