use Rattle.class_table.proofs.Lemmas.{place-has, offset-below, offset-apart, place-offset, offset-place, offset-inherited}
use Rattle.class_table.proofs.laws.places_have_offsets_of_their_own.Goals as goal

pub returns-clause-there : goal.returns-clause-there
returns-clause-there c = λ k d i h. place-has c.args.classes.now k d i h

pub returns-clause-below : goal.returns-clause-below
returns-clause-below c = λ k d i n m e p. offset-below c.args.classes.now k d i n m e p

pub returns-clause-apart : goal.returns-clause-apart
returns-clause-apart c = λ k d i e j n p q. offset-apart c.args.classes.now k d i e j n p q

pub returns-clause-named : goal.returns-clause-named
returns-clause-named c = λ k d i n. (place-offset c.args.classes.now k n d i, offset-place c.args.classes.now k n d i)

pub returns-clause-inherited : goal.returns-clause-inherited
returns-clause-inherited c = λ k b d i n s e. offset-inherited c.args.classes.now c.sound.ensures.sound k b d i n s e
