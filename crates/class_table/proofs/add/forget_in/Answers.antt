use Rattle.class_table.proofs.Lemmas.{element, number-within, forgotten}
use Rattle.class_table.proofs.add.forget_in.Goals as goal

pub forget_subclass-requires : goal.forget_subclass-requires
forget_subclass-requires c = number-within c.args.classes.now c.place-at.result c.args.base.0 c.place-at.ensures

pub returns-clause-back : goal.returns-clause-back
returns-clause-back c = λ n kept e.
    let classes = c.args.classes.now in
    let at = c.place-at.result in
    let d = element classes at (number-within classes at c.args.base.0 c.place-at.ensures) in
    forgotten c.args.base.0 classes c.requires.ascending at c.place-at.ensures d c.forget_subclass.new.self (c.forget_subclass.ensures.back d) n kept e
