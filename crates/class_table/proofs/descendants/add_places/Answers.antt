use Rattle.class_table.proofs.Lemmas.{held-at, added-next}
use Rattle.class_table.proofs.descendants.add_places.Goals as goal

pub place-requires-clause-there : goal.place-requires-clause-there
place-requires-clause-there c = c.requires.there _ (held-at c.args.some.now c.loop-class.class-index (record { 0 = 0 }) c.loop-class-test.true)

pub loop-class-preserved : goal.loop-class-preserved
loop-class-preserved c =
    added-next c.args.classes.now c.requires.coherent.sound.ascending c.args.some.now c.loop-class.class-index c.place.result (record { 0 = 0 }) c.args.found.now c.loop-class.found c.add.new.self c.loop-class-test.true c.loop-class.invariant c.place.ensures c.in_ok-add.ensures
