use Rattle.proto_call.proofs.Lemmas.{Some, length, sym, subst, ◌∙◌, slice_index_or, slice_get, Ask, End, of_ended, AllHold, get-below, Key, Value as OfKey, Resumes, pairs, value-asked, key-ends, part-holds, below-pairs}
use Rattle.std.proofs.Common.{◌≡◌}
use Rattle.py_node.specs.declared.task.Task.TheVariants as task
use Rattle.py_node.specs.declared.task.EvalTask.TheVariants as eval
use Rattle.proto_call.proofs.eval_forms.dict_form.keyed.Goals as goal

pub bounds-pairs-len : goal.bounds-pairs-len
bounds-pairs-len c = rw (c.pairs.ensures, c.len.ensures, c.args.found.ok.0) (below-pairs c.args.world.now c.args.e (length c.args.found.items) c.form.result.now c.form.ensures.stored c.requires.kept.1.0)

pub returns-in-Ok-clause-goes : goal.returns-in-Ok-clause-goes
returns-in-Ok-clause-goes c =
    let w = c.args.world.now in
    let f = c.form.result.now in
    let es = c.args.found in
    let below = below-pairs w c.args.e (length es.items) f c.form.ensures.stored c.requires.kept.1.0 in
    let p = slice_index_or (pairs f) (length es.items) (record { 0 = 0 }, record { 0 = 0 }) in
    let here : slice_get (pairs f) (length es.items) ≡ Some p = get-below (pairs f) (length es.items) (record { 0 = 0 }, record { 0 = 0 }) below in
    let long : c.len.result ≡ length es.items = c.len.ensures ∙ es.ok.0 in
    subst (λ s. Resumes (Key c.args.e es) s w w (Ask (task.Eval (eval.Eval (slice_index_or c.pairs.result.now c.len.result (record { 0 = 0 }, record { 0 = 0 })).1)) (OfKey c.args.e es c.in-Ok.key))) (sym c.in-Ok.ensures.object)
    (rw (c.pairs.ensures, long) (value-asked w c.args.e f es p c.form.ensures.stored here c.requires.kept.1.1.1.1.0 c.in-Ok.key))

pub returns-in-Ok-clause-safe : goal.returns-in-Ok-clause-safe
returns-in-Ok-clause-safe c =
    let w = c.args.world.now in
    let f = c.form.result.now in
    let es = c.args.found in
    let below = below-pairs w c.args.e (length es.items) f c.form.ensures.stored c.requires.kept.1.0 in
    let p = slice_index_or (pairs f) (length es.items) (record { 0 = 0 }, record { 0 = 0 }) in
    let here : slice_get (pairs f) (length es.items) ≡ Some p = get-below (pairs f) (length es.items) (record { 0 = 0 }, record { 0 = 0 }) below in
    let answer = subst (λ a. AllHold w (of_ended a)) c.in-Ok.ensures.object c.requires.answer in
    rw (c.pairs.ensures, c.len.ensures, es.ok.0) (
      (part-holds w f (length es.items) p c.form.ensures.holds here).1,
      (c.requires.kept.0, (c.requires.kept.1.0, (answer.0, c.requires.kept.1.1))),
    )

pub returns-in-Err-clause-goes : goal.returns-in-Err-clause-goes
returns-in-Err-clause-goes c =
    let w = c.args.world.now in
    let s = c.args.answer in
    subst (λ r. Resumes (Key c.args.e c.args.found) s w w (End r)) (sym c.in-Err.ensures.same)
    (key-ends w c.args.e c.args.found s c.in-Err.ensures.other c.requires.kept)
