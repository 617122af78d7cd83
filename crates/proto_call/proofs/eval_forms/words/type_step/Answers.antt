use Rattle.proto_call.proofs.Lemmas.{sym, subst, ◌∙◌, AllHold, of_node_ref, of_option, one-holds}
use Rattle.proto_call.proofs.eval_forms.words.type_step.Goals as goal

pub type_object-requires : goal.type_object-requires
type_object-requires c =
    let w = c.args.world.now in
    (subst (λ o. AllHold w (of_option of_node_ref o)) (sym c.one_of.ensures ∙ c.in-Some.is) (one-holds w c.args.values.now c.requires)).0
