use Rattle.proto_call.proofs.Lemmas.{sym, subst, ◌∙◌, AllHold, of_node_ref, of_option, one-holds}
use Rattle.proto_call.proofs.eval_forms.words.callable_step.Goals as goal

pub slot-requires : goal.slot-requires
slot-requires c =
    let w = c.args.world.now in
    (subst (λ o. AllHold w (of_option of_node_ref o)) (sym c.one_of.ensures ∙ c.in-Some.is) (one-holds w c.args.values.now c.requires)).0
