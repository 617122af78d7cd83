use Rattle.proto_call.proofs.Lemmas.{length, Some, sym, ap, ◌∙◌, slice_get, Ends, value, plain, node-in, last-is}
use Rattle.std.proofs.Common.{◌≡◌, ◌-◌}
use Rattle.proto_call.proofs.eval_forms.flow.seq_step.Goals as goal

pub returns-in-Some-clause-goes : goal.returns-in-Some-clause-goes
returns-in-Some-clause-goes c = λ t r.
    let vs = c.args.values.now in
    let got : slice_get vs (length vs - 1) ≡ Some c.in-Some.value = sym c.last.ensures.value ∙ sym c.copied.ensures ∙ c.in-Some.is in
    (r, ap (λ v. Ends (plain t c.args.world.now) (value v)) (last-is vs c.in-Some.value got))

pub returns-in-Some-clause-safe : goal.returns-in-Some-clause-safe
returns-in-Some-clause-safe c =
    let vs = c.args.values.now in
    let got : slice_get vs (length vs - 1) ≡ Some c.in-Some.value = sym c.last.ensures.value ∙ sym c.copied.ensures ∙ c.in-Some.is in
    (node-in c.args.world.now vs (length vs - 1) c.in-Some.value c.requires got, tt)
