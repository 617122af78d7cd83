use Rattle.class_table.proofs.Lemmas.{suc, length, get_or, sym, ap, ◌∙◌, arith, nat_lt, eqb-false, limit-place}
use Rattle.std.proofs.Common.{◌≡◌, ◌-◌}
use Rattle.class_table.proofs.place.takes.Goals as goal

pub returns-else-is_empty : goal.returns-else-is_empty
returns-else-is_empty c =
    let some : length c.args.classes.now ≡ 0 → ⊥ = eqb-false (length c.args.classes.now) 0 (sym c.is_empty.ensures ∙ c.if-is_empty.false) in
    let size : length c.args.classes.now ≡ suc (length c.args.classes.now - 1) = omega arith in
    let at : c.at.result ≡ get_or c.args.classes.now (length c.args.classes.now - 1) c.at.result = c.at.ensures ∙ ap (λ n. get_or c.args.classes.now (n - 1) c.at.result) c.len.ensures in
    ap (λ n. nat_lt n c.args.number.0) c.number.ensures ∙ limit-place c.args.classes.now c.requires (length c.args.classes.now - 1) c.args.number.0 c.at.result size at
