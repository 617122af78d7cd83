use Rattle.proto_object.proofs.Lemmas.{Some, ap, sym, ◌∙◌, is_some, slice_get, string_bytes, bindings, datum, plain, no-name, one-name, other-no-name, text-named}
use Rattle.proto_object.proofs.names.has_name.Goals as goal

pub returns-in-None : goal.returns-in-None
returns-in-None c = λ t r.
    let w = c.args.world.now in
    let bs = c.args.attrs.now in
    let text = string_bytes c.in-Text.text in
    text-named (plain t w) (bindings t bs) c.args.key text (c.payload.ensures.reads t ∙ ap (λ p. Some (datum t p)) c.in-Text.is)
    ∙ ap is_some (no-name t w bs text r (λ n e. c.in-None.ensures.none n (ap (λ ns. slice_get ns n) c.names.ensures ∙ e ∙ ap Some (sym c.as_str.ensures.value))) c.requires.attrs)

pub returns-in-Some : goal.returns-in-Some
returns-in-Some c = λ t r.
    let w = c.args.world.now in
    let bs = c.args.attrs.now in
    let text = string_bytes c.in-Text.text in
    text-named (plain t w) (bindings t bs) c.args.key text (c.payload.ensures.reads t ∙ ap (λ p. Some (datum t p)) c.in-Text.is)
    ∙ ap is_some (one-name t bs c.in-Some.name text (r.names c.in-Some.name.0 text (ap (λ ns. slice_get ns c.in-Some.name.0) (sym c.names.ensures) ∙ c.in-Some.ensures.found ∙ ap Some c.as_str.ensures.value)))
    ∙ sym c.contains.ensures

pub returns-in_default : goal.returns-in_default
returns-in_default c = λ t r.
    other-no-name t (plain t c.args.world.now) (bindings t c.args.attrs.now) c.args.key c.payload.result.now (c.payload.ensures.reads t) c.in_default.not-Text
