use Rattle.proto_attr.proofs.Lemmas.{◌∙◌, with_one, plain, bindings, getter_of_say, part_given, read_part, ends-after}
use Rattle.proto_attr.proofs.native_objects.details.getter_of_native.Goals as goal

pub returns-clause-ends : goal.returns-clause-ends
returns-clause-ends c =
    let w = c.args.world.now in
    let args = c.args.call.args.now in
    let part = c.in_ok-_object.part in
    ends-after (λ t u. getter_of_say u c.args.class c.args.detail args (bindings t c.args.call.kw.now)) (λ t u. part_given u (read_part t part)) w c.give_part.new.world c.give_part.result (λ t r.
    let u = plain t w in
    c.in_ok-_object.ensures.given t (λ o p. with_one u args (bindings t c.args.call.kw.now) (λ a. part_given u p))
    ∙ c.in_ok-one.ensures.given t u (λ a. part_given u (read_part t part))) c.give_part.ensures.ends
