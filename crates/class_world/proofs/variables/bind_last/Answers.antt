use Rattle.class_world.proofs.Lemmas.{suc, length, arith, on_ok_weaker, bound-at}
use Rattle.std.proofs.Common.{◌≡◌, ◌-◌}
use Rattle.class_world.proofs.variables.bind_last.Goals as goal

pub returns-clause-ok : goal.returns-clause-ok
returns-clause-ok c =
    let l : suc (length c.args.scopes.now - 1) ≡ length c.args.scopes.now = omega (arith, c.requires) in
    on_ok_weaker c.insert.result (λ e. bound-at c.args.scopes.now c.args.name c.args.value c.index-scopes-last.result c.insert.new.self (length c.args.scopes.now - 1) l e) c.insert.ensures.ok
