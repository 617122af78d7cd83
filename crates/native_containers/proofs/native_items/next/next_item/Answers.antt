use Rattle.native_containers.proofs.Lemmas.{[], refl, Next, OfIterator, plain, Iterator, next_item, item_job_say, refused-enters, one-enters}
use Rattle.native_containers.proofs.native_items.next.next_item.Goals as goal

pub returns-in-Err-clause-goes : goal.returns-in-Err-clause-goes
unfolding item_job_say
returns-in-Err-clause-goes c =
    let a = c.args in
    refused-enters (OfIterator Next) a.call.args.now a.call.kw.now a.world.now c.in-Err.raised (λ t. c.in-Err.ensures.refused t (λ o. next_item (plain t a.world.now) o []))

pub returns-in-Ok-clause-goes : goal.returns-in-Ok-clause-goes
unfolding item_job_say
returns-in-Ok-clause-goes c =
    let a = c.args in
    let p = c.in-Ok in
    one-enters (OfIterator Next) Iterator next_item (λ u args kw. refl) a.call.args.now a.call.kw.now p.iterator a.world.now c.next_from.new.world c.next_from.result p.ensures.given c.next_from.ensures.goes
