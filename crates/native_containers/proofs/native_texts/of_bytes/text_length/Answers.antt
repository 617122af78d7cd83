use Rattle.native_containers.proofs.Lemmas.{length, sym, ap, ◌∙◌, chars, Chars-Drains, encodes-chars}
use Rattle.std.proofs.Common.{◌≡◌}
use Rattle.native_containers.proofs.native_texts.of_bytes.text_length.Goals as goal

pub returns : goal.returns
returns c =
    let bs = c.args.text.now in
    let ran = c.count.ensures.ran in
    let same : ran.0 ≡ chars bs = Chars-Drains (chars bs) ran.0 c.chars.result (encodes-chars bs c.utf8.text ∙ sym c.chars.ensures.rest) ran.1 in
    ran.2 ∙ ap length same
