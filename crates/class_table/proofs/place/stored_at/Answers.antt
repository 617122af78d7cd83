use Rattle.class_table.proofs.Lemmas.{number-within, read-number, read-class}
use Rattle.class_table.proofs.Found.{read-at}
use Rattle.class_table.proofs.place.stored_at.Goals as goal

pub returns-clause-class : goal.returns-clause-class
returns-clause-class c =
    read-class c.args.classes.now c.requires.ascending c.place.result c.args.class.0 c.at.result c.place.ensures c.at.ensures

pub returns-clause-here : goal.returns-clause-here
returns-clause-here c =
    record {
      place = c.place.result;
      at = read-at c.args.classes.now c.place.result c.args.class.0 c.at.result c.place.ensures c.at.ensures;
      number = read-number c.args.classes.now c.place.result c.args.class.0 c.at.result c.place.ensures c.at.ensures;
    }

pub at-requires : goal.at-requires
at-requires c = number-within c.args.classes.now c.place.result c.args.class.0 c.place.ensures
