use Rattle.class_table.proofs.Lemmas.{held-at}
use Rattle.class_table.proofs.read.nearest.Goals as goal

pub own_entry-requires-clause-there : goal.own_entry-requires-clause-there
own_entry-requires-clause-there c = c.requires.inside _ (held-at c.args.line.now c.loop-class.class-index (record { 0 = 0 }) c.loop-class-test.true)
