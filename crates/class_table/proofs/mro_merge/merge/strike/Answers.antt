use Rattle.class_table.proofs.Lemmas.{length, arith, without, rows-step, free-at}
use Rattle.std.proofs.Common.{◌<◌}
use Rattle.class_table.proofs.mro_merge.merge.strike.Goals as goal

pub loop-i-preserved : goal.loop-i-preserved
loop-i-preserved c =
    let first : c.loop-i.i < length c.args.lists.now.items = omega arith in
    rows-step (without c.args.class.0) c.args.lists.now.items c.loop-i.lists.items c.loop-i.i c.index_mut.result.now c.behead.new.list first c.loop-i.invariant c.index_mut.ensures.value c.behead.ensures

pub behead-requires : goal.behead-requires
behead-requires c =
    free-at c.args.class.0 (without c.args.class.0) c.args.lists.now.items c.loop-i.lists.items c.loop-i.i c.index_mut.result.now c.requires (omega arith) c.loop-i.invariant c.index_mut.ensures.value
