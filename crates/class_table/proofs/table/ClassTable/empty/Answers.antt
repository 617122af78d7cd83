use Rattle.class_table.proofs.Lemmas.{List, [], sym, subst, rules, StoredClass, IsCoherent}
use Rattle.class_table.proofs.table.ClassTable.empty.Goals as goal

pub invariant_of-result : goal.invariant_of-result
invariant_of-result c =
    let P : List StoredClass → Type 0 = λ kept. IsCoherent kept in
    let none : IsCoherent [] = search rules in
    (subst P (sym c.new.ensures) none, c.without_rows.ensures _)
