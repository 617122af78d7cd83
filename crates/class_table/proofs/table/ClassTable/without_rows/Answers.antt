use Rattle.class_table.proofs.Lemmas.{sym, ap, subst, ◌∙◌, PyStrInterned, fixed_node_count, Classes, HasBuiltIns, with_each_own, start_classes, built-there}
use Rattle.class_table.proofs.table.ClassTable.without_rows.Goals as goal

pub add_own_attrs-requires : goal.add_own_attrs-requires
add_own_attrs-requires c = subst HasBuiltIns (sym c.in_ok-table.ensures) built-there

pub returns : goal.returns
unfolding start_classes
returns c = c.in_ok-add_own_attrs.ensures ∙ ap (λ (t : Classes PyStrInterned). (with_each_own (t, fixed_node_count)).0) c.in_ok-table.ensures
