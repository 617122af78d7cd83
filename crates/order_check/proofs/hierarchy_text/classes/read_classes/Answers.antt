use Rattle.order_check.proofs.Lemmas.{None, arith, view, texts, class_at, all-classes, before-first, last-class, next-class, none-after}
use Rattle.std.proofs.Common.{◌≡◌}
use Rattle.order_check.proofs.hierarchy_text.classes.read_classes.Goals as goal

pub returns-in_err-read_class-clause-shape : goal.returns-in_err-read_class-clause-shape
returns-in_err-read_class-clause-shape c h =
    let names = texts c.loop-item.names.keys in
    let vs = c.args.items.now in
    let none : class_at names (view c.item-item.result) ≡ None = grind (arith, c.in_err-read_class.was, c.read_class.ensures.shape) in
    none-after _ (last-class names vs c.loop-item.item-index c.item-item.result _ _ c.loop-item-test.true c.item-item.is none c.loop-item.invariant)

pub loop-item-init : goal.loop-item-init
loop-item-init c = before-first (texts c.in_ok-names.names.keys) c.args.items.now c.in_ok-entries.entries.items c.in_ok-names.ensures c.in_ok-entries.ensures

pub loop-item-preserved : goal.loop-item-preserved
loop-item-preserved c =
    let names = texts c.loop-item.names.keys in
    let e = c.in_ok-read_class.field-0 in
    rw c.in_ok-push.ensures.items (
    next-class names (texts c.read_class.new.names.keys) c.args.items.now c.loop-item.item-index c.item-item.result c.loop-item.entries.items e _
    c.loop-item-test.true c.item-item.is c.in_ok-read_class.ensures.ok c.in_ok-read_class.ensures.named c.loop-item.invariant
    )

pub returns-clause-ok : goal.returns-clause-ok
returns-clause-ok c = all-classes (texts c.loop-item.names.keys) c.args.items.now c.loop-item.item-index _ _ c.loop-item-test.false c.loop-item.invariant
