use Rattle.class_table.proofs.Lemmas.{◌∙◌, ap, fold, arith, fixed_node_count, Numbered, with_all_own, fold-rows, fold-more, fold-end, each-there-yet, each-few-yet}
use Rattle.class_table.proofs.StartParts.{Row}
use Rattle.class_table.proofs.attributes_of_built_ins.add_own_attrs.Goals as goal

pub add_attrs-requires-clause-there : goal.add_attrs-requires-clause-there
add_attrs-requires-clause-there c =
    each-there-yet c.built_ins-row-items.result.now c.loop-row.row-index (c.args.table.now, fixed_node_count) (c.loop-row.table, c.loop-row.next) c.loop-row.invariant c.requires

pub add_attrs-requires-clause-few : goal.add_attrs-requires-clause-few
add_attrs-requires-clause-few c =
    let near = each-few-yet c.built_ins-row-items.result.now c.loop-row.row-index (c.args.table.now, fixed_node_count) (c.loop-row.table, c.loop-row.next) c.loop-row.invariant c.built_ins-row-items.ensures.count in
    omega (arith, near)

pub loop-row-preserved : goal.loop-row-preserved
loop-row-preserved c =
    fold-more (λ (s : Numbered) (r : Row). with_all_own s r.0) (c.args.table.now, fixed_node_count) (c.loop-row.table, c.loop-row.next) _ c.built_ins-row-items.result.now c.loop-row.row-index _ c.loop-row-test.true c.loop-row.invariant c.in_ok-next.ensures

pub returns : goal.returns
returns c =
    let s : Numbered = (c.args.table.now, fixed_node_count) in
    let rows = c.built_ins-row-items.result.now in
    ap (λ (u : Numbered). u.0) (
    fold-end (λ (s : Numbered) (r : Row). with_all_own s r.0) s (c.loop-row.table, c.loop-row.next) rows c.loop-row.row-index c.loop-row-test.false c.loop-row.invariant
    ∙ fold-rows with_all_own s rows
    ∙ ap (λ bs. fold with_all_own s bs) c.built_ins-row-items.ensures.classes
    )
