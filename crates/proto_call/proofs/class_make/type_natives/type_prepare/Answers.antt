use Rattle.proto_call.proofs.Lemmas.{[], true, cond, length, sym, ap, ◌∙◌, rules, nat_le, place_of, PlainDict, ArgCount, the_dict, ADict, Ends, fault, plain, datum, none-hold, object_made, type_prepare, with_name_and_bases, ends-after}
use Rattle.std.proofs.Common.{◌≡◌}
use Rattle.py_node.specs.declared.payload.Payload.TheVariants as payload
use Rattle.proto_call.proofs.class_make.type_natives.type_prepare.Goals as goal

pub new_object-requires-clause-holds : goal.new_object-requires-clause-holds
new_object-requires-clause-holds c = rw c.new-dict.ensures (none-hold _)

pub returns-clause-ends : goal.returns-clause-ends
unfolding place_of
returns-clause-ends c =
    let w = c.args.world.now in
    let args = c.args.args.now in
    let few : nat_le (length args) 3 ≡ true = search rules in
    ends-after (λ t u. type_prepare u args) (λ t u. object_made u the_dict (datum t (payload.Dict c.new-dict.result))) w c.new_object.new.world c.new_object.result (λ t r.
    let u = plain t w in
    c.in_ok-own_class.ensures.given t (λ k. with_name_and_bases u args (object_made u the_dict (ADict [])))
    ∙ ap (λ b. cond b (object_made u the_dict (ADict [])) (Ends u (fault ArgCount))) few
    ∙ ap (λ (d : PlainDict). object_made u the_dict (ADict d.items)) (sym c.new-dict.ensures)) c.new_object.ensures.ends
