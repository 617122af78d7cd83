-- A write goes on from the front that is out.
use Rattle.outside.proofs.Lemmas.{arith, ◌∙◌, ap, Some, length, take, drop, length-drop, take_rest, taken_more}
use Rattle.std.proofs.Common.{◌≡◌, ◌-◌, ◌<◌, ◌≤◌}
use Rattle.outside.proofs.write_all.write_all.Goals as goal

pub loop-at-preserved : goal.loop-at-preserved
loop-at-preserved g c =
    let piece = take (length c.args.bytes.now - c.loop-at.at) (drop c.loop-at.at c.args.bytes.now) in
    let len : length piece ≡ length c.args.bytes.now - c.loop-at.at = ap length (take_rest c.args.bytes.now c.loop-at.at) ∙ length-drop c.loop-at.at c.args.bytes.now in
    record {
      within = omega (arith, c.in_ok-at.ensures.part, len);
      later = omega (arith, c.in_ok-at.ensures.later);
      front = λ old is. c.in_ok-at.ensures.taken _ (c.loop-at.invariant.front old is)
          ∙ ap (λ r. Some r) (taken_more old c.args.bytes.now c.loop-at.at c.in_ok-at.field-0);
      sure = λ enough. let before = c.loop-at.invariant.sure enough in
          let some : 0 < length piece = omega (arith, len) in
          let fits : length piece ≤ g.K.Sink.sure c.loop-at.sink = omega (arith, len, before) in
          omega (arith, c.in_ok-at.ensures.sure some fits, before);
    }
