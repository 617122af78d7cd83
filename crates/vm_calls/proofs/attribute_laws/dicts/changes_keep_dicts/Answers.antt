use Rattle.vm_calls.proofs.Lemmas.{bases-keep, class-keeps, plain}
use Rattle.vm_calls.proofs.attribute_laws.dicts.changes_keep_dicts.Goals as goal

pub returns-clause-bases : goal.returns-clause-bases
returns-clause-bases c = λ t k bs d here there passed l. bases-keep (plain t c.args.world.now).classes (c.sound.ensures t).classes k bs d here there passed l

pub returns-clause-class : goal.returns-clause-class
returns-clause-class c = λ t k d here there passed. class-keeps (plain t c.args.world.now).classes (c.sound.ensures t).classes k d here there passed
