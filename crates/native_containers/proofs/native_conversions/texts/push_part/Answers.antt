use Rattle.native_containers.proofs.Lemmas.{◌∙◌, ap, sym, append_assoc, string_bytes}
use Rattle.std.proofs.Common.{◌++◌}
use Rattle.native_containers.proofs.native_conversions.texts.push_part.Goals as goal

pub returns : goal.returns
returns c = λ t.
    let old = string_bytes c.args.text.now in
    let b = c.args.before.now in
    c.in_ok-push_str-2.ensures.bytes
    ∙ ap (λ xs. xs ++ c.text_at.result.now) c.in_ok-push_str.ensures.bytes
    ∙ append_assoc old b c.text_at.result.now
    ∙ ap (λ xs. old ++ (b ++ xs)) (sym (c.text_at.ensures t))
