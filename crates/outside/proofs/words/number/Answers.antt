-- What isn't read as 64 bits is no number in range.
use Rattle.outside.proofs.Lemmas.{rules, sym, ◌∙◌, ap, arith, is_numeral, too_large}
use Rattle.outside.proofs.words.number.Goals as goal

pub returns-in-Err : goal.returns-in-Err
returns-in-Err c = record {
  written = too_large c.args.low c.args.high (omega arith) c.args.text.now c.parse.result _ c.parse.ensures.value.0 c.in-Err.is
      (ap is_numeral (sym c.as_bytes.ensures.value) ∙ sym c.is_plain.ensures ∙ c.if-not-is_plain.false);
  most = search rules;
}
