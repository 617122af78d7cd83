use Rattle.class_table.proofs.Lemmas.{rules, subst, ◌∙◌, has_dict, AreSound, has-gives}
use Rattle.std.proofs.Common.{◌≡◌}
use Rattle.class_table.proofs.table.ClassTable.has_dict.Goals as goal

pub returns-clause-gives : goal.returns-clause-gives
returns-clause-gives c =
    let says : c.has_dict.result ≡ has_dict c.args.self.now c.args.class.0 = search rules in
    says ∙ has-gives c.args.self.now (subst AreSound c.self.view_is c.self.invariant.0.sound) c.args.class.0 c.requires
