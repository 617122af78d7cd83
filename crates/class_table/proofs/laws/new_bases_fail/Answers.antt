use Rattle.class_table.proofs.Lemmas.{failing-is}
use Rattle.class_model.proofs.Failing.{failing-none}
use Rattle.class_table.proofs.laws.new_bases_fail.Goals as goal

pub returns-clause-fail : goal.returns-clause-fail
returns-clause-fail c = λ k d bs cause. failing-is c.args.classes.now k bs c.sound.ensures.sound.ascending d cause

pub returns-clause-pass : goal.returns-clause-pass
returns-clause-pass c = λ k bs. failing-none c.args.classes.now k bs c.sound.ensures.sound.ascending
