use Rattle.proto_call.proofs.Lemmas.{err_from_is_err_and, ap, ◌∙◌, plain, bindings, in_length, text_made, class_text, type_repr, ends-after}
use Rattle.std.specs.Prelude.{string_bytes}
use Rattle.proto_call.proofs.class_make.type_natives.type_repr.Goals as goal

pub returns-in_err-class-clause-ends : goal.returns-in_err-class-clause-ends
returns-in_err-class-clause-ends c =
    let p = err_from_is_err_and c.from_residual.result c.from_residual.ensures.1 in
    rw (p.1, p.2) (λ t r.
    let u = plain t c.args.world.now in
    (r, c.in_err-class.ensures.refused t (λ k. text_made u (class_text u k))))

pub returns-clause-ends : goal.returns-clause-ends
returns-clause-ends c =
    let w = c.args.world.now in
    ends-after (λ t u. type_repr u c.args.call.args.now (bindings t c.args.call.kw.now)) (λ t u. text_made u (in_length (string_bytes c.in_ok-text.text))) w c.limited_text.new.world c.limited_text.result (λ t r.
    let u = plain t w in
    c.in_ok-class.ensures.given t (λ k. text_made u (class_text u k)) ∙ ap (text_made u) (c.in_ok-text.ensures t r)) c.limited_text.ensures.ends
