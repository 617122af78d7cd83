use Rattle.proto_call.proofs.Lemmas.{◌∙◌, is_same_name, plain, value-holds, ok-map, some-holds, shown-read}
use Rattle.proto_call.proofs.body.shown.Goals as goal

pub value_text-requires : goal.value_text-requires
value_text-requires c =
    let h = value-holds c.args.world.now (λ k. is_same_name k c.args.param) c.args.vars.now c.requires in
    some-holds c.args.world.now c.get.result (rw c.get.ensures h)

pub returns : goal.returns
returns c =
    ok-map _ _ c.value_text.result (λ s h t. h t ∙ shown-read t (plain t c.args.world.now) c.args.vars.now c.args.param c.get.result c.get.ensures) c.value_text.ensures
