use Rattle.class_view.proofs.Lemmas.{true, length, arith, rules, changes-further, whole-part}
use Rattle.std.proofs.Common.{◌≡◌, ◌<◌}
use Rattle.class_view.proofs.same.begins_with.Goals as goal

pub loop-i-preserved : goal.loop-i-preserved
loop-i-preserved c =
    let yes : c.same.result ≡ true = search rules in
    let in-list : c.loop-i.i < length c.args.list.now = omega (arith, c.loop-i-test.true, c.if-part-list.false) in
    changes-further c.args.list.now c.args.part.now c.loop-i.i c.index-list-i.result c.index-part-i.result in-list c.loop-i-test.true c.index-list-i.is c.index-part-i.is (c.same.ensures yes) c.loop-i.invariant

pub returns : goal.returns
returns c = λ t.
    let all : c.loop-i.i ≡ length c.args.part.now = omega (arith, c.loop-i-test.false, c.loop-i.auto.i-end) in
    whole-part c.args.list.now c.args.part.now c.loop-i.i all c.loop-i.invariant
