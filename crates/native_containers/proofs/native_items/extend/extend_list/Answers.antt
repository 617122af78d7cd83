use Rattle.native_containers.proofs.Lemmas.{[], refl, InplaceAdd, OfList, plain, List, extend, item_job_say, refused-enters, two-enters}
use Rattle.native_containers.proofs.native_items.extend.extend_list.Goals as goal

pub returns-in-Err-clause-goes : goal.returns-in-Err-clause-goes
unfolding item_job_say
returns-in-Err-clause-goes c =
    let a = c.args in
    refused-enters (OfList InplaceAdd) a.call.args.now a.call.kw.now a.world.now c.in-Err.raised (λ t. c.in-Err.ensures.refused t (λ o k. extend (plain t a.world.now) o k []))

pub returns-in-Ok-clause-goes : goal.returns-in-Ok-clause-goes
unfolding item_job_say
returns-in-Ok-clause-goes c =
    let a = c.args in
    let p = c.in-Ok in
    two-enters (OfList InplaceAdd) List extend (λ u args kw. refl) a.call.args.now a.call.kw.now p.list p.others a.world.now a.world.now c.items_asked.result p.ensures.given c.items_asked.ensures.goes
