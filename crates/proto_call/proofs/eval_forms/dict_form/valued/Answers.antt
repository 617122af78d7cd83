use Rattle.proto_call.proofs.Lemmas.{[], Ok, length, sym, subst, ◌∙◌, arith, length-append, IfOk, KeyType, End, fault, of_ended, AllHold, ok-map, Value as OfKey, Goes, Resumes, pairs_row, value-ends, refused-ends, pair-found, pairs-pushed, fits-more}
use Rattle.std.proofs.Common.{◌∷◌}
use Rattle.py_node.specs.declared.task.Answer.TheVariants.{Value}
use Rattle.proto_call.proofs.eval_forms.dict_form.valued.Goals as goal

pub returns-then-not-can_be_key-clause-goes : goal.returns-then-not-can_be_key-clause-goes
returns-then-not-can_be_key-clause-goes c =
    let w = c.args.world.now in
    rw c.raise.ensures (subst (λ s. Resumes (OfKey c.args.e c.args.found c.args.key) s w w (End (fault KeyType))) (sym c.in-Ok.ensures.object)
    (refused-ends w c.args.e c.args.found c.args.key c.in-Ok.value (λ t. c.can_be_key.ensures.key t ∙ c.if-not-can_be_key.true) c.requires.kept))

pub next_key-requires-clause-found : goal.next_key-requires-clause-found
next_key-requires-clause-found c =
    let w = c.args.world.now in
    let answer = subst (λ a. AllHold w (of_ended a)) c.in-Ok.ensures.object c.requires.answer in
    rw c.in_ok-push-in-Ok.ensures.items (pairs-pushed w c.args.found.items c.args.key c.in-Ok.value c.requires.kept.1.1.1 c.requires.kept.1.1.0 answer.0 (c.can_be_key.ensures.holds c.if-not-can_be_key.false))

pub next_key-requires-clause-fits : goal.next_key-requires-clause-fits
next_key-requires-clause-fits c =
    let l = length-append c.args.found.items ((c.args.key, c.in-Ok.value) ∷ []) in
    let more = fits-more c.args.world.now c.args.e (length c.args.found.items) c.requires.kept.1.0 in
    rw c.in_ok-push-in-Ok.ensures.items (omega (arith, l, more))

pub returns-in_ok-push-in-Ok-clause-goes : goal.returns-in_ok-push-in-Ok-clause-goes
returns-in_ok-push-in-Ok-clause-goes c =
    let w = c.args.world.now in
    let new = c.next_key.new.world in
    let e = c.args.e in
    let es = c.args.found in
    let k = c.args.key in
    let v = c.in-Ok.value in
    subst (λ s. IfOk c.next_key.result (λ step. Resumes (OfKey e es k) s w new step)) (sym c.in-Ok.ensures.object)
    (ok-map (λ step. Goes (λ t. pairs_row (t.tree e.0) c.push.new.self.items) w new step) (λ step. Resumes (OfKey e es k) (Ok (Value v)) w new step) c.next_key.result (λ step h. pair-found w new e es c.push.new.self k v step c.in_ok-push-in-Ok.ensures.items h) c.next_key.ensures.goes)

pub returns-in-Err-clause-goes : goal.returns-in-Err-clause-goes
returns-in-Err-clause-goes c =
    let w = c.args.world.now in
    let s = c.args.answer in
    subst (λ r. Resumes (OfKey c.args.e c.args.found c.args.key) s w w (End r)) (sym c.in-Err.ensures.same)
    (value-ends w c.args.e c.args.found c.args.key s c.in-Err.ensures.other c.requires.kept)
