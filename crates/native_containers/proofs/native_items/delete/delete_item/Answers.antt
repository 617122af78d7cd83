use Rattle.native_containers.proofs.Lemmas.{[], refl, DelItem, OfList, plain, List, del_item, item_job_say, refused-enters, two-enters}
use Rattle.native_containers.proofs.native_items.delete.delete_item.Goals as goal

pub returns-in-Err-clause-goes : goal.returns-in-Err-clause-goes
unfolding item_job_say
returns-in-Err-clause-goes c =
    let a = c.args in
    refused-enters (OfList DelItem) a.call.args.now a.call.kw.now a.world.now c.in-Err.raised (λ t. c.in-Err.ensures.refused t (λ o k. del_item (plain t a.world.now) o k []))

pub returns-in-Ok-clause-goes : goal.returns-in-Ok-clause-goes
unfolding item_job_say
returns-in-Ok-clause-goes c =
    let a = c.args in
    let p = c.in-Ok in
    two-enters (OfList DelItem) List del_item (λ u args kw. refl) a.call.args.now a.call.kw.now p.list p.key a.world.now c.delete_asked.new.world c.delete_asked.result p.ensures.given c.delete_asked.ensures.goes
