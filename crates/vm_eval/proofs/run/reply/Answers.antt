use Rattle.vm_eval.proofs.Lemmas.{tree_of, command-replied}
use Rattle.vm_eval.proofs.run.reply.Goals as goal

pub returns-clause-replied : goal.returns-clause-replied
returns-clause-replied c =
    let stored = c.in_ok-expr.ensures in
    command-replied (tree_of c.args.command.now.expr) c.in_ok-expr.expr c.args.units c.args.world.now c.add_expr.new.world c.drive.new.world c.take_calls-calls.new.self c.in_ok-end.end _ _ stored.added stored.same stored.reads c.in_ok-end.ensures.answers c.in_ok-answer.ensures c.take_calls-calls.ensures.calls c.take_calls-calls.ensures.taken c.take_calls-calls.ensures.reads
