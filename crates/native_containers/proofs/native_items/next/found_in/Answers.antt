use Rattle.native_containers.proofs.Lemmas.{found-holds}
use Rattle.native_containers.proofs.native_items.next.found_in.Goals as goal

pub returns-in-Tuple-clause-holds : goal.returns-in-Tuple-clause-holds
returns-in-Tuple-clause-holds c =
    let h = rw c.in-Tuple.is at c.payload.ensures.holds in
    rw (c.item_in.ensures, c.deref.ensures.value) (found-holds c.args.world.now c.in-Tuple.items.items c.args.place h.0)

pub returns-in-List-clause-holds : goal.returns-in-List-clause-holds
returns-in-List-clause-holds c =
    let h = rw c.in-List.is at c.payload.ensures.holds in
    rw (c.item_in-in-List.ensures, c.deref-in-List.ensures.value) (found-holds c.args.world.now c.in-List.items.items c.args.place h.0)
