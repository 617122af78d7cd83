use Rattle.proto_object.proofs.Lemmas.{Err, sym, ap, ◌∙◌, is_numeral, without_sign, spelled-err}
use Rattle.proto_object.proofs.proto_number.texts.spelled.Goals as goal

pub returns-in-Err : goal.returns-in-Err
returns-in-Err c =
    let digits = c.without_sign.ensures ∙ ap without_sign c.as_bytes.ensures.value in
    let e = sym (c.is_numeral.ensures ∙ ap is_numeral digits) ∙ c.if-not-is_numeral.false in
    ap Err c.new-in-Err.ensures ∙ spelled-err c.args.text.now e c.in-Err.ensures.value.0
