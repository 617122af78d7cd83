use Rattle.script_text.proofs.Below.{take, map, reply_of, replies_text}
use Rattle.std.proofs.Common.{◌≡◌}
use Rattle.script_text.proofs.reply_text.write.write_replies.Given as goal

abbrev pub invariant-loop-reply : goal.invariant-loop-reply
invariant-loop-reply l = l.out.items ≡ replies_text (map reply_of (take l.reply-index l.replies))
