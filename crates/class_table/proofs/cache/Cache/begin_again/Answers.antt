use Rattle.class_table.proofs.Lemmas.{List, Option, sym, subst, arith, with_items_is, Row, AreEmpty, empty_cached}
use Rattle.class_table.proofs.cache.Cache.begin_again.Goals as goal

pub returns : goal.returns
returns c =
    let P : List (Option Row) → Type 0 = λ rows. AreEmpty rows in
    λ t. empty_cached t _ (subst P (sym (with_items_is c.args.self.now.rows c.empty_rows.new.rows (omega arith))) c.empty_rows.ensures)
