use Rattle.std.proofs.Common.{◌≡◌, ◌+◌, ◌-◌, ◌*◌, ◌<◌, ◌++◌}
use Rattle.serve.proofs.Below.{IsReadable, after, Ran}
use Rattle.serve.proofs.Steps.{classes_made, changes_made}
use Rattle.serve.proofs.generation.generation_text.Given as goal

-- so many classes are made
abbrev pub invariant-loop-i : goal.invariant-loop-i
invariant-loop-i l = record {
  ran : Ran (classes_made l.generation.seed l.i) l.vm.world l.tally;
  draws : l.draws ≡ after (l.i - 1) l.generation.seed;
  replies : l.tally.replies ≡ l.i;
  readable : 0 < l.i → IsReadable l.vm.world;
}

-- all classes are made, and so many changes
abbrev pub invariant-loop-i-2 : goal.invariant-loop-i-2
invariant-loop-i-2 l = record {
  ran : Ran (classes_made l.fn.generation.seed 8 ++ changes_made l.fn.generation.seed l.i) l.vm.world l.tally;
  draws : l.draws ≡ after (7 + 3 * l.i) l.fn.generation.seed;
  replies : l.tally.replies ≡ 8 + l.i;
  readable : IsReadable l.vm.world;
}
