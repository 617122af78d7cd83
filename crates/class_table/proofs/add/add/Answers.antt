use Rattle.class_table.proofs.Lemmas.{refl, class_of_new, bases-once, step-lines, step-inside, step-full, step-done}
use Rattle.class_table.proofs.Pushed.{bases-there}
use Rattle.class_table.proofs.add.add.Goals as goal

pub attach-requires-clause-there : goal.attach-requires-clause-there
attach-requires-clause-there c =
    bases-there c.args.classes.now c.requires.coherent (class_of_new c.args.new) c.requires.fresh c.requires.below c.args.classes.now refl c.in-Ok.stored c.in-Ok.ensures.fresh

pub attach-requires-clause-distinct : goal.attach-requires-clause-distinct
attach-requires-clause-distinct c =
    bases-once c.args.classes.now c.requires.coherent (class_of_new c.args.new) c.requires.fresh c.requires.below c.args.classes.now refl c.in-Ok.stored c.in-Ok.ensures.fresh

pub settle-requires-clause-lines : goal.settle-requires-clause-lines
settle-requires-clause-lines c =
    step-lines c.args.classes.now c.requires.coherent (class_of_new c.args.new) c.requires.fresh c.requires.below c.args.best c.requires.best c.in-Ok.stored c.len-at.result c.args.classes.now c.attach.new.classes c.attach.new.classes c.len-at.ensures refl c.in-Ok.ensures.fresh c.in-Ok-attach.ensures.ok refl

pub settle-requires-clause-inside : goal.settle-requires-clause-inside
settle-requires-clause-inside c =
    step-inside c.args.classes.now c.requires.coherent (class_of_new c.args.new) c.requires.fresh c.requires.below c.args.best c.requires.best c.in-Ok.stored c.len-at.result c.args.classes.now c.attach.new.classes c.attach.new.classes c.len-at.ensures refl c.in-Ok.ensures.fresh c.in-Ok-attach.ensures.ok refl

pub settle-requires-clause-full : goal.settle-requires-clause-full
settle-requires-clause-full c =
    step-full c.args.classes.now c.requires.coherent (class_of_new c.args.new) c.requires.fresh c.requires.below c.args.best c.requires.best c.in-Ok.stored c.len-at.result c.args.classes.now c.attach.new.classes c.attach.new.classes c.len-at.ensures refl c.in-Ok.ensures.fresh c.in-Ok-attach.ensures.ok refl

pub returns-clause-coherent : goal.returns-clause-coherent
returns-clause-coherent c =
    (step-done c.args.classes.now c.requires.coherent (class_of_new c.args.new) c.requires.fresh c.requires.below c.args.best c.requires.best c.in-Ok.stored c.len-at.result c.args.classes.now c.attach.new.classes c.attach.new.classes c.len-at.ensures refl c.in-Ok.ensures.fresh c.in-Ok-attach.ensures.ok refl c.requires.dict c.settle.new.classes c.settle.new.classes c.settle.ensures refl).0

pub returns-clause-added : goal.returns-clause-added
returns-clause-added c =
    (step-done c.args.classes.now c.requires.coherent (class_of_new c.args.new) c.requires.fresh c.requires.below c.args.best c.requires.best c.in-Ok.stored c.len-at.result c.args.classes.now c.attach.new.classes c.attach.new.classes c.len-at.ensures refl c.in-Ok.ensures.fresh c.in-Ok-attach.ensures.ok refl c.requires.dict c.settle.new.classes c.settle.new.classes c.settle.ensures refl).1
