use Rattle.script_text.proofs.Lemmas.{sym, subst, IsUtf8, utf8_quoted}
use Rattle.script_text.proofs.reply_text.escape.quoted_string.Goals as goal

pub string_of-requires : goal.string_of-requires
string_of-requires c =
    let written = rw c.new-bytes.ensures.items at c.in_ok-push_quoted.ensures in
    subst IsUtf8 (sym written) (utf8_quoted c.as_bytes.result.now c.as_bytes.ensures.utf8)
