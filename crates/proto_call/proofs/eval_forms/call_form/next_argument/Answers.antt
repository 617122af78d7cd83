use Rattle.proto_call.proofs.Lemmas.{length, map, sym, ap, ◌∙◌, IfOk, PlainWorld, Reading, spelled, of_step, AllHold, Holds, AreNames, AreNodes, World, ok-map, given_say, Goes, arguments_row, called_task, positional, named, of_called, of_eval_kept, all-given, argument-asked, argument-holds, arguments-given, has-argument, named-hold, no-more, plainly-given}
use Rattle.proto_call.proofs.eval_forms.call_form.next_argument.Goals as goal

pub returns-in-Some-clause-goes : goal.returns-in-Some-clause-goes
returns-in-Some-clause-goes c =
    let e = rw (c.len.ensures, c.args.values.ok.0) at c.argument.ensures in
    argument-asked c.args.world.now c.args.e c.in-Some.argument c.form-form.result.now c.args.called c.args.values c.form-form.ensures.stored (sym e ∙ c.in-Some.is)

pub returns-in-Some-clause-safe : goal.returns-in-Some-clause-safe
returns-in-Some-clause-safe c =
    let w = c.args.world.now in
    let f = c.form-form.result.now in
    let e = rw (c.len.ensures, c.args.values.ok.0) at c.argument.ensures in
    let here = sym e ∙ c.in-Some.is in (
      argument-holds w f _ c.in-Some.argument c.form-form.ensures.holds here,
      (c.requires.call, (has-argument w c.args.e _ f c.in-Some.argument c.form-form.ensures.stored here, (c.requires.values, c.requires.called))),
    )

pub returns-in_ok-names-in-None-clause-goes : goal.returns-in_ok-names-in-None-clause-goes
returns-in_ok-names-in-None-clause-goes c =
    let w = c.args.world.now in
    let f = c.form-form.result.now in
    let called = c.args.called in
    let vs = c.args.values in
    let e = rw (c.len.ensures, c.args.values.ok.0) at c.argument.ensures in
    let names = c.in_ok-names-in-None.ensures ∙ ap (map (λ k. k.0)) c.named-keywords.ensures in
    let row = λ (t : Reading) (u : PlainWorld). given_say u (called_task called) (length (positional f)) (map (spelled t) (map (λ k. k.0) (named f))) vs.items in
    let goes : IfOk c.call_with.result (λ step. (v : World) → Goes row v v step) =
    rw (← c.positional.ensures, ← names, ← c.deref.ensures.value, ← c.deref-in-None.ensures.value) c.call_with.ensures.goes in
    ok-map (λ step. (v : World) → Goes row v v step) (λ step. Goes (λ t. arguments_row (t.tree c.args.e.0) called vs.items) w w step) c.call_with.result
    (λ step k. arguments-given w c.args.e f called vs step c.form-form.ensures.stored (sym e ∙ c.in-None.is) c.requires.fits (k w)) goes

pub returns-in_ok-names-in-None-clause-safe : goal.returns-in_ok-names-in-None-clause-safe
returns-in_ok-names-in-None-clause-safe c =
    let w = c.args.world.now in
    let f = c.form-form.result.now in
    let names = c.deref.ensures.value ∙ c.in_ok-names-in-None.ensures ∙ ap (map (λ k. k.0)) c.named-keywords.ensures in
    let named_ones : Holds w (AreNames c.deref.result.now) = rw names (named-hold w f c.form-form.ensures.holds) in
    let values : Holds w (AreNodes c.deref-in-None.result.now) = rw c.deref-in-None.ensures.value c.requires.values in
    ok-map (λ step. (v : World) → AllHold v (of_called c.args.called) → Holds v (AreNames c.deref.result.now) → Holds v (AreNodes c.deref-in-None.result.now) → AllHold v (of_step of_eval_kept step)) (λ step. AllHold w (of_step of_eval_kept step)) c.call_with.result
    (λ step k. k w c.requires.called named_ones values) c.call_with.ensures.safe

pub returns-then-is_empty-clause-goes : goal.returns-then-is_empty-clause-goes
returns-then-is_empty-clause-goes c =
    let w = c.args.world.now in
    let f = c.form-form.result.now in
    let called = c.args.called in
    let vs = c.args.values in
    let e = rw (c.len.ensures, c.args.values.ok.0) at c.argument.ensures in
    let past = sym e ∙ c.in-None.is in
    let none = sym c.named-keywords.ensures ∙ no-more c.named-keywords.result.now (sym c.is_empty.ensures ∙ c.if-is_empty.true) in
    let long = all-given w c.args.e f (length vs.items) c.form-form.ensures.stored past c.requires.fits in
    arguments-given w c.args.e f called vs c.call_plainly.result c.form-form.ensures.stored past c.requires.fits
    (plainly-given w f called vs.items c.call_plainly.result long none (c.call_plainly.ensures.goes w))

pub returns-then-is_empty-clause-safe : goal.returns-then-is_empty-clause-safe
returns-then-is_empty-clause-safe c = c.call_plainly.ensures.safe c.args.world.now c.requires.called c.requires.values
