use Rattle.class_table.proofs.Lemmas.{ap, drop, ◌∙◌, is_same_name, with_values}
use Rattle.std.proofs.Common.{◌+◌}
use Rattle.class_table.proofs.Collected.{values-at}
use Rattle.class_table.proofs.collect.put_all.Goals as goal

pub loop-i-preserved : goal.loop-i-preserved
loop-i-preserved c =
    ap (λ found. with_values is_same_name found (drop (c.loop-i.i + 1) c.args.attrs.now)) c.in_ok-insert.ensures.ok
    ∙ values-at is_same_name c.loop-i.found c.args.attrs.now c.loop-i.i c.at.result c.at.ensures
    ∙ c.loop-i.invariant
