-- The machine's run of one command is the plain machine's, and its one reply is counted.
use Rattle.serve.proofs.Lemmas.{length, map, ap, ◌∙◌, subst, tree_of, reply_of, Counts, one-reply, ran-more}
use Rattle.std.proofs.Common.{◌+◌, ◌++◌}
use Rattle.serve.proofs.generation.run_one.Goals as goal

pub returns-in-Ok-clause-ran : goal.returns-in-Ok-clause-ran
returns-in-Ok-clause-ran c = λ done ran.
    ran-more done (tree_of c.args.command.expr) c.args.vm.now.world c.run.new.self.world c.args.tally.now c.add_all.new.self c.in-Ok.replies.items c.in-Ok.ensures.runs
    (λ rs has. subst (λ xs. Counts c.add_all.new.self (rs ++ map reply_of xs)) c.deref.ensures.value (c.add_all.ensures.counts rs has)) ran

pub returns-in-Ok-clause-replies : goal.returns-in-Ok-clause-replies
returns-in-Ok-clause-replies c =
    c.add_all.ensures.replies
    ∙ ap (λ n. c.args.tally.now.replies + n) (ap length c.deref.ensures.value
    ∙ one-reply (tree_of c.args.command.expr) c.args.vm.now.world c.run.new.self.world c.in-Ok.replies.items c.in-Ok.ensures.runs c.in-Ok.ensures.readable)
