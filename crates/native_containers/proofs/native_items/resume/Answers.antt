use Rattle.native_containers.proofs.Lemmas.{[], subst, sym, refl, datum_at, ended_of, Getting, GettingCharacter, Setting, Deleting, Extending, Iterating, item_got, set_rest, del_rest, extend_rest, char_rest, chars_at, iterator_in, next_rest, End, Resumes, items_stood, item_job_say, ends-resumes, sorted_ends}
use Rattle.native_containers.proofs.native_items.resume.Goals as goal

pub returns-in-Getting-clause-goes : goal.returns-in-Getting-clause-goes
returns-in-Getting-clause-goes c =
    let a = c.args in
    let p = c.in-Getting in
    subst (λ k. Resumes k a.answer a.world.now a.world.now (End c.item_got-ended.result)) (sym p.is) (ends-resumes (Getting p.object p.stood) a.answer (λ t u. item_got u (items_stood u p.stood p.object) (ended_of a.answer) []) a.world.now a.world.now c.item_got-ended.result
    (λ t. refl) c.item_got-ended.ensures.ends)

pub returns-in_ok-ended-in-GettingCharacter-clause-goes : goal.returns-in_ok-ended-in-GettingCharacter-clause-goes
unfolding item_job_say
returns-in_ok-ended-in-GettingCharacter-clause-goes c =
    let a = c.args in
    let p = c.in-GettingCharacter in
    subst (λ k. Resumes k a.answer a.world.now c.character_given.new.world (End c.in_ok-ended-in-GettingCharacter.ended)) (sym p.is) (ends-resumes (GettingCharacter p.object) a.answer (λ t u. char_rest u (chars_at u p.object) (ended_of a.answer) []) a.world.now c.character_given.new.world c.in_ok-ended-in-GettingCharacter.ended
    (λ t. refl) (sorted_ends c.character_given.result c.in_ok-ended-in-GettingCharacter.ended _ c.in_ok-ended-in-GettingCharacter.ensures c.character_given.ensures.ends))

pub returns-in_ok-ended-in-Setting-clause-goes : goal.returns-in_ok-ended-in-Setting-clause-goes
returns-in_ok-ended-in-Setting-clause-goes c =
    let a = c.args in
    let p = c.in-Setting in
    subst (λ k. Resumes k a.answer a.world.now c.item_set.new.world (End c.in_ok-ended-in-Setting.ended)) (sym p.is) (ends-resumes (Setting p.list p.key p.value p.stood) a.answer (λ t u. set_rest u p.list p.key p.value (items_stood u p.stood p.list) (ended_of a.answer) []) a.world.now c.item_set.new.world c.in_ok-ended-in-Setting.ended
    (λ t. refl) (sorted_ends c.item_set.result c.in_ok-ended-in-Setting.ended _ c.in_ok-ended-in-Setting.ensures c.item_set.ensures.ends))

pub returns-in_ok-ended-in-Deleting-clause-goes : goal.returns-in_ok-ended-in-Deleting-clause-goes
returns-in_ok-ended-in-Deleting-clause-goes c =
    let a = c.args in
    let p = c.in-Deleting in
    subst (λ k. Resumes k a.answer a.world.now c.item_deleted.new.world (End c.in_ok-ended-in-Deleting.ended)) (sym p.is) (ends-resumes (Deleting p.list p.stood) a.answer (λ t u. del_rest u p.list (items_stood u p.stood p.list) (ended_of a.answer) []) a.world.now c.item_deleted.new.world c.in_ok-ended-in-Deleting.ended
    (λ t. refl) (sorted_ends c.item_deleted.result c.in_ok-ended-in-Deleting.ended _ c.in_ok-ended-in-Deleting.ensures c.item_deleted.ensures.ends))

pub returns-in_ok-ended-in-Extending-clause-goes : goal.returns-in_ok-ended-in-Extending-clause-goes
returns-in_ok-ended-in-Extending-clause-goes c =
    let a = c.args in
    let p = c.in-Extending in
    subst (λ k. Resumes k a.answer a.world.now c.list_extended.new.world (End c.in_ok-ended-in-Extending.ended)) (sym p.is) (ends-resumes (Extending p.list p.stood) a.answer (λ t u. extend_rest u p.list (items_stood u p.stood p.list) (ended_of a.answer) []) a.world.now c.list_extended.new.world c.in_ok-ended-in-Extending.ended
    (λ t. refl) (sorted_ends c.list_extended.result c.in_ok-ended-in-Extending.ended _ c.in_ok-ended-in-Extending.ensures c.list_extended.ensures.ends))

pub returns-in-Iterating-clause-goes : goal.returns-in-Iterating-clause-goes
unfolding item_job_say
returns-in-Iterating-clause-goes c =
    let a = c.args in
    let p = c.in-Iterating in
    subst (λ k. Resumes k a.answer a.world.now c.next_given-ended.new.world (End c.next_given-ended.result)) (sym p.is) (ends-resumes (Iterating p.iterator) a.answer (λ t u. next_rest u p.iterator (iterator_in (datum_at u p.iterator)) (ended_of a.answer) []) a.world.now c.next_given-ended.new.world c.next_given-ended.result
    (λ t. refl) c.next_given-ended.ensures.ends)
