use Rattle.proto_attr.proofs.Lemmas.{sym, ap, ◌∙◌, string_bytes, with_one, plain, bindings, spelled, in_length, text_made, member_repr, member_text, ends-after}
use Rattle.proto_attr.proofs.native_objects.descriptors.member_repr.Goals as goal

pub returns-clause-ends : goal.returns-clause-ends
returns-clause-ends c =
    let w = c.args.world.now in
    let m = c.in_ok-_object in
    ends-after (λ t u. member_repr u c.args.call.args.now (bindings t c.args.call.kw.now)) (λ t u. text_made u (in_length (string_bytes c.in_ok-text.text))) w c.limited_text.new.world c.limited_text.result (λ t r.
    let u = plain t w in
    m.ensures.given t (λ o n. with_one u c.args.call.args.now (bindings t c.args.call.kw.now) (λ a. text_made u (in_length (member_text u n))))
    ∙ c.in_ok-one.ensures.given t u (λ a. text_made u (in_length (member_text u (m.class.0, spelled t m.name))))
    ∙ ap (λ x. text_made u (in_length x)) (sym (c.in_ok-text.ensures t r))) c.limited_text.ensures.ends
