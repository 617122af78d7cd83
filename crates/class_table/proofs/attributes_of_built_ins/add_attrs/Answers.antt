use Rattle.class_table.proofs.Lemmas.{◌∙◌, ap, fold, arith, with_own, fold-more, fold-end, own-there-yet, own-few-yet}
use Rattle.class_table.proofs.attributes_of_built_ins.add_attrs.Goals as goal

pub add_attr-requires-clause-there : goal.add_attr-requires-clause-there
add_attr-requires-clause-there c =
    own-there-yet c.args.class c.attrs_of-attr-items.result.now c.loop-attr.attr-index (c.args.table.now, c.args.first) (c.loop-attr.table, c.loop-attr.next) c.loop-attr.invariant c.requires.there

pub add_attr-requires-clause-few : goal.add_attr-requires-clause-few
add_attr-requires-clause-few c =
    let near = own-few-yet c.args.class c.attrs_of-attr-items.result.now c.loop-attr.attr-index (c.args.table.now, c.args.first) (c.loop-attr.table, c.loop-attr.next) c.loop-attr.invariant c.attrs_of-attr-items.ensures in
    let few = c.requires.few in
    omega (arith, near, few)

pub loop-attr-preserved : goal.loop-attr-preserved
loop-attr-preserved c =
    fold-more (with_own c.args.class) (c.args.table.now, c.args.first) (c.loop-attr.table, c.loop-attr.next) _ c.attrs_of-attr-items.result.now c.loop-attr.attr-index _ c.loop-attr-test.true c.loop-attr.invariant c.in_ok-next.ensures

pub returns : goal.returns
returns c =
    fold-end (with_own c.args.class) (c.args.table.now, c.args.first) (c.loop-attr.table, c.loop-attr.next) c.attrs_of-attr-items.result.now c.loop-attr.attr-index c.loop-attr-test.false c.loop-attr.invariant
    ∙ ap (λ own. fold (with_own c.args.class) (c.args.table.now, c.args.first) own) c.attrs_of-attr-items.ensures
