use Rattle.class_table.proofs.Lemmas.{held-at}
use Rattle.class_table.proofs.read.of_table.Goals as goal

pub has_table-requires-clause-there : goal.has_table-requires-clause-there
has_table-requires-clause-there c = c.requires.inside _ (held-at c.args.line.now c.loop-class.class-index (record { 0 = 0 }) c.loop-class-test.true)

pub own_entry-requires-clause-there : goal.own_entry-requires-clause-there
own_entry-requires-clause-there c = c.requires.inside _ (held-at c.args.line.now c.loop-class.class-index (record { 0 = 0 }) c.loop-class-test.true)
