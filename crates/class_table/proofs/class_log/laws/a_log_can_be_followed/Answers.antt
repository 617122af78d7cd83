use Rattle.class_table.proofs.Lemmas.{follows, keeps-begins}
use Rattle.class_table.proofs.class_log.laws.a_log_can_be_followed.Goals as goal

pub returns-clause-follows : goal.returns-clause-follows
returns-clause-follows c = follows

pub returns-clause-begins : goal.returns-clause-begins
returns-clause-begins c = keeps-begins
