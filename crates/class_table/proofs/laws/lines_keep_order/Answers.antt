use Rattle.class_table.proofs.Lemmas.{lin-distinct, keeps-bases, keeps-members}
use Rattle.class_table.proofs.laws.lines_keep_order.Goals as goal

pub returns-clause-distinct : goal.returns-clause-distinct
returns-clause-distinct c = λ k line e. lin-distinct c.args.classes.now k line e

pub returns-clause-bases : goal.returns-clause-bases
returns-clause-bases c = λ k line bs e h. keeps-bases c.args.classes.now k line bs e h

pub returns-clause-members : goal.returns-clause-members
returns-clause-members c = λ k line x l e h f. keeps-members c.args.classes.now k line x l e h f
