use Rattle.order_check.proofs.Lemmas.{length, arith, without, rows-step}
use Rattle.std.proofs.Common.{◌<◌}
use Rattle.order_check.proofs.left.strike.Goals as goal

pub loop-i-preserved : goal.loop-i-preserved
loop-i-preserved c =
    let first : c.loop-i.i < length c.args.lists.now.items = omega arith in
    rows-step (without c.args.key) c.args.lists.now.items c.loop-i.lists.items c.loop-i.i c.index_mut.result.now c.remove.new.list first c.loop-i.invariant c.index_mut.ensures.value c.remove.ensures
