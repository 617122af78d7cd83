use Rattle.py_node.proofs.Lemmas.{set-next}
use Rattle.py_node.proofs.key_index.set_of.Goals as goal

pub loop-key-preserved : goal.loop-key-preserved
loop-key-preserved c =
    set-next _ _ c.args.keys.now c.loop-key.key-index _ c.in_ok-insert.ensures.keys c.loop-key.invariant c.loop-key-test.true c.requires
