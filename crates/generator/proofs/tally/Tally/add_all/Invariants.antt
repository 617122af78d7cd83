use Rattle.generator.proofs.Below.{List, map, take, PlainReply, reply_of, Counts}
use Rattle.std.proofs.Common.{◌≡◌, ◌+◌, ◌++◌}
use Rattle.generator.proofs.tally.Tally.add_all.Given as goal

-- the replies so far are counted
abbrev pub invariant-loop-reply : goal.invariant-loop-reply
invariant-loop-reply l = record {
  counts : (rs : List PlainReply) → Counts l.fn.self rs → Counts l.self (rs ++ map reply_of (take l.reply-index l.replies));
  replies : l.self.replies ≡ l.fn.self.replies + l.reply-index;
}
