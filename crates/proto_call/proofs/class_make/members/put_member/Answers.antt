use Rattle.proto_call.proofs.Lemmas.{ap, ◌∙◌, place_of, MemberDescriptor, with_node, member_datum, plain, spelled, member-put}
use Rattle.proto_call.proofs.class_make.members.put_member.Goals as goal

pub returns-in-Ok-clause-set : goal.returns-in-Ok-clause-set
unfolding place_of
returns-in-Ok-clause-set c = λ t.
    let u = plain t c.args.world.now in
    let home = c.built_in-home.result.0 in
    let made = c.in_ok-node.ensures.made t ∙ ap (λ (m : MemberDescriptor). with_node u home (member_datum t m)) c.in_ok-boxed.ensures.ok in
    member-put u (plain t c.make_node.new.self) (plain t c.set_attr.new.self) c.args.class.0 c.args.place home (spelled t c.args.name) c.in_ok-node.node made (c.in_ok-node.ensures.number t) c.built_in-home.ensures.place (c.in-Ok.ensures.set t)
