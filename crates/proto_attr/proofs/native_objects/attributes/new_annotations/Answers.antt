use Rattle.proto_attr.proofs.Lemmas.{[], ap, ◌∙◌, place_of, PlainDict, the_dict, ADict, with_node, with_own_attr, plain, spelled, none-hold}
use Rattle.proto_attr.proofs.native_objects.attributes.new_annotations.Goals as goal

pub make_node-requires-clause-payload : goal.make_node-requires-clause-payload
make_node-requires-clause-payload c = rw c.new-empty.ensures (none-hold _)

pub returns-in-Ok-clause-made : goal.returns-in-Ok-clause-made
unfolding place_of
returns-in-Ok-clause-made c = λ t.
    let u = plain t c.args.world.now in
    let k = c.args.class.0 in
    let x = spelled t c.args.name in
    let made = rw c.built_in-dicts.ensures.place at c.in_ok-dict.ensures.made in
    let number = rw c.built_in-dicts.ensures.place at c.in_ok-dict.ensures.number in
    c.in-Ok.ensures.set t
    ∙ ap (λ v. with_own_attr v k x c.in_ok-dict.dict) (made t)
    ∙ ap (λ (d : PlainDict). with_own_attr (with_node u the_dict (ADict d.items)) k x c.in_ok-dict.dict) c.new-empty.ensures
    ∙ ap (with_own_attr (with_node u the_dict (ADict [])) k x) (number t)

pub returns-in-Ok-clause-number : goal.returns-in-Ok-clause-number
unfolding place_of
returns-in-Ok-clause-number c = rw c.built_in-dicts.ensures.place at c.in_ok-dict.ensures.number
