use Rattle.order_check.proofs.Lemmas.{length, arith, below_more, IsRightAt, told-more}
use Rattle.std.proofs.Common.{◌+◌, ◌<◌}
use Rattle.order_check.proofs.accepting.first_wrong.Goals as goal

pub loop-place-init : goal.loop-place-init
loop-place-init c = record { told = c.requires.told; right = λ k l. absurd (omega arith) }

pub loop-place-preserved : goal.loop-place-preserved
loop-place-preserved c =
    let h = c.args.told.entries.now in
    let lines = c.args.told.lines.now in
    let inside : c.loop-place.place + 1 < length h = omega arith in
    let right = c.is_right.ensures.0 c.if-not-is_right.false in
    record {
      told = told-more h c.args.told.root.now lines c.loop-place.place c.requires.order inside c.loop-place.invariant.told right;
      right = below_more (λ k. IsRightAt h lines k) c.loop-place.place c.loop-place.invariant.right right;
    }
