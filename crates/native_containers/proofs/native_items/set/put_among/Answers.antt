use Rattle.native_containers.proofs.Lemmas.{set-nodes}
use Rattle.native_containers.proofs.native_items.set.put_among.Goals as goal

pub change_list-requires-clause-items : goal.change_list-requires-clause-items
change_list-requires-clause-items c = set-nodes c.args.world.now c.args.items.items c.requires.items c.in-Some.place c.args.value c.requires.value
