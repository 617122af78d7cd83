use Rattle.script_text.proofs.Below.{take, map, flat_map, started_of, call_line}
use Rattle.std.proofs.Common.{◌≡◌, ◌++◌}
use Rattle.script_text.proofs.reply_text.write.push_reply.Given as goal

abbrev pub invariant-loop-call : goal.invariant-loop-call
invariant-loop-call l =
    l.out.items ≡ l.initial.out.items ++ flat_map call_line (map started_of (take l.call-index l.call-items))
