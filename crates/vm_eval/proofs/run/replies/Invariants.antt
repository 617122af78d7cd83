use Rattle.vm_eval.proofs.Below.{[], map, drop, vec_capacity, reply_of, plain_run, Reading, Reads, plain, Lasts, say, AsDeep, trees_in}
use Rattle.std.proofs.Common.{◌≡◌, ◌≤◌, ◌++◌}
use Rattle.vm_eval.proofs.run.replies.Given as goal

-- the replies so far, and those to what is left, are those to all
abbrev pub invariant-loop-command : goal.invariant-loop-command
invariant-loop-command l = record {
  runs : (t : Reading) → Reads t l.world →
      let rest = plain_run say (plain t l.world) (trees_in (drop l.command-index l.commands)) l.units in
      Reads t l.fn.world × (plain_run say (plain t l.fn.world) (trees_in l.commands) l.units ≡ record { world = rest.world; replies = map reply_of l.replies.items ++ rest.replies });
  lasts : Lasts l.fn.world l.world;
  bodies : AsDeep l.fn.world l.world;
  quiet : l.fn.world.calls ≡ [] → l.world.calls ≡ [];
  room : vec_capacity l.fn.stack ≤ vec_capacity l.stack;
}
