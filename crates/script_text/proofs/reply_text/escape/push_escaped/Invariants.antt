use Rattle.script_text.proofs.Below.{take, escaped}
use Rattle.std.proofs.Common.{◌≡◌, ◌++◌}
use Rattle.script_text.proofs.reply_text.escape.push_escaped.Given as goal

abbrev pub invariant-loop-byte : goal.invariant-loop-byte
invariant-loop-byte l = l.out.items ≡ l.initial.out.items ++ escaped (take l.byte-index l.text)
