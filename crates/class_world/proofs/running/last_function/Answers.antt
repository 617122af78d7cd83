use Rattle.class_world.proofs.Lemmas.{suc, length, arith, function-at}
use Rattle.std.proofs.Common.{◌≡◌, ◌-◌}
use Rattle.class_world.proofs.running.last_function.Goals as goal

pub returns-else-count-eq0 : goal.returns-else-count-eq0
returns-else-count-eq0 c =
    let l : suc (length c.args.scopes.now - 1) ≡ length c.args.scopes.now = omega (arith, c.if-count-eq0.false) in
    function-at c.args.scopes.now c.index-scopes-count.result (length c.args.scopes.now - 1) l
