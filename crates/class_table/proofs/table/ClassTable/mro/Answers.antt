use Rattle.class_table.proofs.Lemmas.{rules, Some, lin, lin-least, numbers}
use Rattle.std.proofs.Common.{◌≡◌}
use Rattle.class_table.proofs.table.ClassTable.mro.Goals as goal

pub returns-clause-least : goal.returns-clause-least
returns-clause-least c =
    let line : lin c.args.self.now c.args.class.0 ≡ Some (numbers c.mro.result.now) = search rules in
    lin-least c.args.self.now c.args.class.0 (numbers c.mro.result.now) line
