use Rattle.proto_object.proofs.Lemmas.{sym, subst, IfOk, of_ended, AllHold, EndsAs, list_made, sorted_ends, grows-itself, Gathering, End, all-gathered, no-item}
use Rattle.proto_object.specs.ProtoItems.Rows.{Resumes}
use Rattle.proto_object.proofs.proto_items.listed.gather.Goals as goal

pub one_more-requires-clause-item : goal.one_more-requires-clause-item
one_more-requires-clause-item c =
    let is = rw c.in-Ok-Some.field-0-is at c.in-Ok-Some.ensures.item in
    (subst (λ r. AllHold c.args.world.now (of_ended r)) is c.requires.answer).0

pub returns-in-Ok-Some-clause-goes : goal.returns-in-Ok-Some-clause-goes
returns-in-Ok-Some-clause-goes c =
    let a = c.args in
    let w = a.world.now in
    let is = rw c.in-Ok-Some.field-0-is at c.in-Ok-Some.ensures.item in
    subst (λ r. IfOk c.one_more.result (λ step. Resumes (Gathering a.iterator a.items) r w w step)) (sym is) c.one_more.ensures.goes

pub returns-in_ok-ended-in-Ok-None-clause-goes : goal.returns-in_ok-ended-in-Ok-None-clause-goes
returns-in_ok-ended-in-Ok-None-clause-goes c =
    let a = c.args in
    let w = a.world.now in
    let new = c.new_list.new.world in
    let is = rw c.in-Ok-None.field-0-is at c.in-Ok-None.ensures.item in
    let ends = sorted_ends c.new_list.result c.in_ok-ended-in-Ok-None.ended (EndsAs (λ t u. list_made u a.items.items) w new) c.in_ok-ended-in-Ok-None.ensures c.new_list.ensures.ends in
    let over = all-gathered w a.iterator a.items new c.in_ok-ended-in-Ok-None.ended ends in
    subst (λ r. Resumes (Gathering a.iterator a.items) r w new (End c.in_ok-ended-in-Ok-None.ended)) (sym is) over

pub returns-in-Err-clause-goes : goal.returns-in-Err-clause-goes
returns-in-Err-clause-goes c =
    let a = c.args in
    let w = a.world.now in
    let ends = no-item w a.iterator a.items a.answer c.in-Err.ensures.other in
    subst (λ r. Resumes (Gathering a.iterator a.items) a.answer w w (End r)) (sym c.in-Err.ensures.same) ends

pub returns-in-Err-clause-safe : goal.returns-in-Err-clause-safe
returns-in-Err-clause-safe c =
    let w = c.args.world.now in
    (grows-itself w, subst (λ r. AllHold w (of_ended r)) (sym c.in-Err.ensures.same) c.requires.answer)
