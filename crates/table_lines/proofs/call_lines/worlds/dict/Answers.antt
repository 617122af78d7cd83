use Rattle.table_lines.proofs.Lemmas.{none-hold}
use Rattle.table_lines.proofs.call_lines.worlds.dict.Goals as goal

pub make_node-requires-clause-payload : goal.make_node-requires-clause-payload
make_node-requires-clause-payload c = rw c.new.ensures (none-hold c.args.world.now)
