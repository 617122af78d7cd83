use Rattle.py_node.proofs.Lemmas.{insert-next}
use Rattle.py_node.proofs.attributes.same_map.Goals as goal

pub loop-entry-preserved : goal.loop-entry-preserved
loop-entry-preserved c =
    insert-next _ _ c.args.entries.now c.loop-entry.entry-index _ c.in_ok-insert.ensures.entries c.loop-entry.invariant c.requires c.loop-entry-test.true
