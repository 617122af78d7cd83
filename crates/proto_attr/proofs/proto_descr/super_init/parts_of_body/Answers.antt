use Rattle.proto_attr.proofs.Lemmas.{arith, ap, subst, sym, ◌∙◌, Function, AreNames, Holds, name_holds}
use Rattle.proto_attr.proofs.proto_descr.super_init.parts_of_body.Goals as goal

pub local-requires : goal.local-requires
local-requires c =
    let w = c.args.world.now in
    let held = rw c.in-Function.is at c.payload.ensures.holds in
    let names = subst (λ xs. Holds w (AreNames xs)) (sym (c.as_slice.ensures.value ∙ ap (λ (f : Function). f.params.items) c.deref.ensures)) held.1.0 in
    name_holds w c.as_slice.result.now 0 (record { 0 = 0 }) (omega (arith, c.in-len1-up.len_at_least)) names
