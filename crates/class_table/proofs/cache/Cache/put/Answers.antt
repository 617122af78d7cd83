use Rattle.class_table.proofs.Lemmas.{Some, set, refl, ◌∙◌, rules, arith, with_items_is, Row, filled_cached}
use Rattle.std.proofs.Common.{◌≡◌}
use Rattle.class_table.proofs.cache.Cache.put.Goals as goal

pub returns : goal.returns
returns c =
    let old = c.args.self.now in
    let row : Row = record { class = c.args.class; name = c.args.name; version = old.version; answer = c.args.answer } in
    let filled : c.set_row.new.rows ≡ set old.rows.items c.row_of.result (Some row) = search rules in
    λ t h e. filled_cached t old _ c.row_of.result row h (record { now = λ s. e; earlier = omega arith }) (with_items_is old.rows c.set_row.new.rows (omega arith) ∙ filled) refl
