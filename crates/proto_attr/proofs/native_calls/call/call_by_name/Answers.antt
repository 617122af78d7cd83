use Rattle.proto_attr.proofs.Lemmas.{◌∙◌, sym, subst, arith, item_holds, AreNodes, Holds, rest-is, rest-nodes}
use Rattle.proto_attr.proofs.native_calls.call.call_by_name.Goals as goal

pub called_task-requires : goal.called_task-requires
called_task-requires c =
    let w = c.args.world.now in
    let slice = c.as_slice.result.now in
    let nodes = subst (λ rs. Holds w (AreNodes rs)) (sym c.as_slice.ensures.value) c.requires.0 in
    let rest = c.in_ok-rest-in-len1-up.ensures ∙ rest-is slice in
    (item_holds w slice 0 (record { 0 = 0 }) (omega (arith, c.in-len1-up.len_at_least)) nodes, (subst (λ rs. Holds w (AreNodes rs)) (sym rest) (rest-nodes w slice nodes), c.requires.1))
