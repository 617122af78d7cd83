use Rattle.class_world.proofs.Lemmas.{suc, length, arith, ◌∙◌, last-at}
use Rattle.std.proofs.Common.{◌≡◌, ◌-◌}
use Rattle.class_world.proofs.variables.last_value.Goals as goal

pub returns-else-count-eq0 : goal.returns-else-count-eq0
returns-else-count-eq0 c =
    let l : suc (length c.args.scopes.now - 1) ≡ length c.args.scopes.now = omega (arith, c.if-count-eq0.false) in
    c.get.ensures ∙ last-at c.args.scopes.now c.args.name c.index-scopes-count.result (length c.args.scopes.now - 1) l
