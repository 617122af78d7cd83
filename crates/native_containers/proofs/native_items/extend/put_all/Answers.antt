use Rattle.native_containers.proofs.Lemmas.{sym, subst, AreNodes, Holds, both-nodes}
use Rattle.native_containers.proofs.native_items.extend.put_all.Goals as goal

pub set_payload-requires-clause-payload : goal.set_payload-requires-clause-payload
set_payload-requires-clause-payload c =
    let a = c.args in
    let w = a.world.now in
    (subst (λ rs. Holds w (AreNodes rs)) (sym c.in_ok-extend_from_slice.ensures.items) (both-nodes w a.items.items c.requires.items a.others.now c.requires.others), tt)
