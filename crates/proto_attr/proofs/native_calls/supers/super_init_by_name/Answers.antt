use Rattle.proto_attr.proofs.Lemmas.{◌∙◌, sym, subst, arith, grows-itself, item_holds, AreNodes, Holds, rest-is, rest-nodes}
use Rattle.proto_attr.proofs.native_calls.supers.super_init_by_name.Goals as goal

pub returns-in_ok-rest-in-len1-up-clause-safe : goal.returns-in_ok-rest-in-len1-up-clause-safe
returns-in_ok-rest-in-len1-up-clause-safe c =
    let w = c.args.world.now in
    let args = c.args.call.args.now in
    let rest = c.in_ok-rest-in-len1-up.ensures ∙ rest-is args in
    (grows-itself w, (item_holds w args 0 (record { 0 = 0 }) (omega (arith, c.in-len1-up.len_at_least)) c.requires, (subst (λ rs. Holds w (AreNodes rs)) (sym rest) (rest-nodes w args c.requires), tt)))
