use Rattle.native_containers.proofs.Lemmas.{[], refl, SetItem, OfList, plain, List, set_item, item_job_say, refused-enters, three-enters}
use Rattle.native_containers.proofs.native_items.set.set_item.Goals as goal

pub returns-in-Err-clause-goes : goal.returns-in-Err-clause-goes
unfolding item_job_say
returns-in-Err-clause-goes c =
    let a = c.args in
    refused-enters (OfList SetItem) a.call.args.now a.call.kw.now a.world.now c.in-Err.raised (λ t. c.in-Err.ensures.refused t (λ o k v. set_item (plain t a.world.now) o k v []))

pub returns-in-Ok-clause-goes : goal.returns-in-Ok-clause-goes
unfolding item_job_say
returns-in-Ok-clause-goes c =
    let a = c.args in
    let p = c.in-Ok in
    three-enters (OfList SetItem) List set_item (λ u args kw. refl) a.call.args.now a.call.kw.now p.list p.key p.value a.world.now a.world.now c.set_asked.result p.ensures.given c.set_asked.ensures.goes
