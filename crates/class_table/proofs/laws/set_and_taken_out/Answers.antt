use Rattle.class_table.proofs.Lemmas.{set-back}
use Rattle.class_table.proofs.laws.set_and_taken_out.Goals as goal

pub returns : goal.returns
returns c = λ k n v e. set-back c.args.classes.now k n v e
