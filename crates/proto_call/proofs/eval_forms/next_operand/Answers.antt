use Rattle.proto_call.proofs.Lemmas.{sym, ◌∙◌, grows-itself, goes-on, operand-holds, has-operand, has-values}
use Rattle.proto_call.proofs.eval_forms.next_operand.Goals as goal

pub own_step-requires-clause-all : goal.own_step-requires-clause-all
own_step-requires-clause-all c =
    let e = rw (c.len.ensures, c.args.values.ok.0) at c.operand.ensures in
    has-values c.args.world.now c.args.e c.form-form.result.now c.args.values.items c.form-form.ensures.stored (sym e ∙ c.in-None.is) c.requires.fits

pub evaluated-requires : goal.evaluated-requires
evaluated-requires c =
    let e = rw (c.len.ensures, c.args.values.ok.0) at c.operand.ensures in
    operand-holds c.args.world.now c.form-form.result.now _ c.in-Some.operand c.form-form.ensures.holds (sym e ∙ c.in-Some.is)

pub returns-in-Some-clause-goes : goal.returns-in-Some-clause-goes
returns-in-Some-clause-goes c =
    let e = rw (c.len.ensures, c.args.values.ok.0) at c.operand.ensures in
    goes-on c.args.world.now c.args.e c.in-Some.operand c.evaluated.result c.form-form.result.now c.args.values c.form-form.ensures.stored (sym e ∙ c.in-Some.is) c.evaluated.ensures.tree

pub returns-in-Some-clause-safe : goal.returns-in-Some-clause-safe
returns-in-Some-clause-safe c =
    let w = c.args.world.now in
    let e = rw (c.len.ensures, c.args.values.ok.0) at c.operand.ensures in
    let here = sym e ∙ c.in-Some.is in (
      grows-itself w,
      (
        c.evaluated.ensures.holds,
        (c.requires.expression, (has-operand w c.args.e _ c.form-form.result.now c.in-Some.operand c.form-form.ensures.stored here, (c.requires.values, tt))),
      ),
    )
