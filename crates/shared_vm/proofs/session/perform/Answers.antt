use Rattle.shared_vm.proofs.Lemmas.{[], List, sym, subst, map_push, Command, Tree, tree_of, trees_in, Performed, stays_more, performed_more}
use Rattle.std.proofs.Common.{◌≡◌, ◌++◌, ◌∷◌}
use Rattle.shared_vm.proofs.session.perform.Goals as goal

pub loop-command-preserved : goal.loop-command-preserved
loop-command-preserved g c =
    let first = c.args.seat.now in
    let old = c.loop-command.seat in
    let new = c.execute.new.seat in
    let done = c.in-Ok.ensures in
    let more : trees_in (c.loop-command.yielded ++ c.in-Some.command ∷ []) ≡ trees_in c.loop-command.yielded ++ tree_of c.in-Some.command.expr ∷ [] =
    map_push (λ (command : Command). tree_of command.expr) c.loop-command.yielded c.in-Some.command in (
      stays_more c.args.vm.now.id first old new (tree_of c.in-Some.command.expr) c.args.budget _ c.loop-command.invariant.0 done,
      subst (λ (cs : List Tree). Performed c.args.budget cs first new) (sym more)
          (performed_more c.args.vm.now.id c.args.budget (trees_in c.loop-command.yielded) (tree_of c.in-Some.command.expr) first old new _ c.loop-command.invariant.0 c.loop-command.invariant.1 done),
    )
