use Rattle.class_table.proofs.Lemmas.{chain-whole, classes_of}
use Rattle.class_table.proofs.chain.chain.Goals as goal

pub returns-clause-whole : goal.returns-clause-whole
returns-clause-whole c = chain-whole (classes_of c.args.classes.now) c.requires.coherent.sound c.args.class.0 c.requires.there
