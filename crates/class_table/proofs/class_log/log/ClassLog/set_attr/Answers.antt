use Rattle.class_table.proofs.Lemmas.{sym, logged-made, set-made}
use Rattle.class_table.proofs.ClassLog.Logged.{noted}
use Rattle.class_table.proofs.class_log.log.ClassLog.set_attr.Goals as goal

pub returns-in-Ok-clause-law : goal.returns-in-Ok-clause-law
returns-in-Ok-clause-law c =
    logged-made c.args.self.now c.args.classes.now _ (set-made c.args.classes.now c.args.class.0 c.args.name c.args.value c.requires (sym c.in-Ok.ensures.immutable)) _
    (noted c.self.inside.changes.items c.reserve.new.self.items c.push_reserved.new.self.items _ c.args.self.now c.self.view_is c.reserve.ensures.items c.push_reserved.ensures.items) _ c.in-Ok.ensures.set
