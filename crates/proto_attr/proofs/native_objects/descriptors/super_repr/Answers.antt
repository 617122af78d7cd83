use Rattle.proto_attr.proofs.Lemmas.{sym, ap, ◌∙◌, string_bytes, option_map, with_one, plain, bindings, in_length, text_made, super_repr, super_text, ends-after}
use Rattle.proto_attr.proofs.native_objects.descriptors.super_repr.Goals as goal

pub returns-clause-ends : goal.returns-clause-ends
returns-clause-ends c =
    let w = c.args.world.now in
    let s = c.in_ok-_object.own in
    ends-after (λ t u. super_repr u c.args.call.args.now (bindings t c.args.call.kw.now)) (λ t u. text_made u (in_length (string_bytes c.in_ok-text.text))) w c.limited_text.new.world c.limited_text.result (λ t r.
    let u = plain t w in
    c.in_ok-_object.ensures.given t (λ o n. with_one u c.args.call.args.now (bindings t c.args.call.kw.now) (λ a. text_made u (in_length (super_text u n))))
    ∙ c.in_ok-one.ensures.given t u (λ a. text_made u (in_length (super_text u (s.typ.0, option_map (λ b. (b.0, b.1.0)) s.obj))))
    ∙ ap (λ x. text_made u (in_length x)) (sym (c.in_ok-text.ensures t))) c.limited_text.ensures.ends
