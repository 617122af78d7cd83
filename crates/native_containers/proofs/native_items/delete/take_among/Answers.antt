use Rattle.native_containers.proofs.Lemmas.{sym, subst, AreNodes, Holds, without-nodes}
use Rattle.native_containers.proofs.native_items.delete.take_among.Goals as goal

pub change_list-requires-clause-items : goal.change_list-requires-clause-items
change_list-requires-clause-items c =
    let w = c.args.world.now in
    subst (λ l. Holds w (AreNodes l)) (sym c.remove.ensures.items) (without-nodes w c.args.items.items c.requires.items c.in-Some.place)
