use Rattle.proto_attr.proofs.Lemmas.{arith, item_holds, rest-hold}
use Rattle.proto_attr.proofs.native_calls.set.set_by_name.Goals as goal

pub set_as-requires : goal.set_as-requires
set_as-requires c =
    let w = c.args.world.now in
    let args = c.args.call.args.now in
    let rest = rest-hold w args c.requires in
    (item_holds w args 0 (record { 0 = 0 }) (omega (arith, c.in-len1-up.len_at_least)) c.requires, (c.in-Ok.ensures.first w rest, (c.in-Ok.ensures.second w rest, tt)))
