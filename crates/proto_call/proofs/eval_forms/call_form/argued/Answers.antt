use Rattle.proto_call.proofs.Lemmas.{[], ap, length, sym, subst, arith, length-append, ltb-true, End, of_ended, AllHold, Holds, more-nodes, Arguments, Resumes, arguments, arguments_at, argument-more, argument-other}
use Rattle.std.proofs.Common.{◌∷◌}
use Rattle.proto_call.proofs.eval_forms.call_form.argued.Goals as goal

pub next_argument-requires-clause-values : goal.next_argument-requires-clause-values
next_argument-requires-clause-values c =
    let w = c.args.world.now in
    let answer = subst (λ a. AllHold w (of_ended a)) c.in-Ok.ensures.object c.requires.answer in
    rw c.in_ok-values-in-Ok.ensures (more-nodes w c.args.values.items c.in-Ok.value c.requires.kept.1.1.0 answer.0)

pub next_argument-requires-clause-fits : goal.next_argument-requires-clause-fits
unfolding Holds
next_argument-requires-clause-fits c =
    let l = length-append c.args.values.items (c.in-Ok.value ∷ []) in
    let h = c.requires.kept.1.0 in
    let within = ltb-true (length c.args.values.items) (length (arguments h.0)) h.2 in
    let long = ap (λ o. length (arguments_at o)) h.1 in
    rw c.in_ok-values-in-Ok.ensures (omega (arith, l, within, long))

pub returns-in-Err-clause-goes : goal.returns-in-Err-clause-goes
returns-in-Err-clause-goes c =
    let w = c.args.world.now in
    let s = c.args.answer in
    subst (λ r. Resumes (Arguments c.args.e c.args.called c.args.values) s w w (End r)) (sym c.in-Err.ensures.same)
    (argument-other w c.args.e c.args.called c.args.values s c.in-Err.ensures.other c.requires.kept.1.0)

pub next_argument-requires-clause-call : goal.next_argument-requires-clause-call
next_argument-requires-clause-call c = c.requires.kept.0

pub next_argument-requires-clause-called : goal.next_argument-requires-clause-called
next_argument-requires-clause-called c = c.requires.kept.1.1.1

pub returns-in_ok-values-in-Ok-clause-goes : goal.returns-in_ok-values-in-Ok-clause-goes
returns-in_ok-values-in-Ok-clause-goes c =
    argument-more c.args.world.now c.args.e c.args.called c.args.values c.in_ok-values-in-Ok.values c.in-Ok.value c.args.answer c.next_argument.result c.in-Ok.ensures.object c.in_ok-values-in-Ok.ensures c.next_argument.ensures.goes

pub returns-in_ok-values-in-Ok-clause-safe : goal.returns-in_ok-values-in-Ok-clause-safe
returns-in_ok-values-in-Ok-clause-safe c = c.next_argument.ensures.safe

pub returns-in-Err-clause-safe : goal.returns-in-Err-clause-safe
returns-in-Err-clause-safe c = subst (λ a. AllHold c.args.world.now (of_ended a)) (sym c.in-Err.ensures.same) c.requires.answer
