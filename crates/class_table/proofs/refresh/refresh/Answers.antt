use Rattle.class_table.proofs.Lemmas.{refreshed-none}
use Rattle.class_table.proofs.refresh.refresh.Goals as goal

pub returns-else-name-lt-SPECIAL_NAMES : goal.returns-else-name-lt-SPECIAL_NAMES
returns-else-name-lt-SPECIAL_NAMES c = refreshed-none c.args.class.0 c.args.name c.args.classes.now c.if-name-lt-SPECIAL_NAMES.false c.requires.near
