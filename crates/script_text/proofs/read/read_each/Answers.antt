use Rattle.script_text.proofs.Lemmas.{[], arith, commands-turn}
use Rattle.std.proofs.Common.{◌≡◌, ◌∷◌, ◌++◌}
use Rattle.script_text.proofs.read.read_each.Goals as goal

pub loop-item-preserved : goal.loop-item-preserved
loop-item-preserved c =
    let l = c.loop-item in
    let e = c.in_ok-read_expr.field-0 in
    let grown : c.push.new.self.items ≡ l.commands.items ++ (record { expr = e }) ∷ [] = grind arith in
    rw grown (commands-turn c.args.items.now l.item-index c.item-item.result l.commands.items (record { expr = e }) (omega arith) c.item-item.is c.in_ok-read_expr.ensures.ok l.invariant)
