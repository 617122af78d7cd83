use Rattle.native_containers.proofs.Lemmas.{◌∙◌, IfOk, ap, sym, subst, OfIterator, OfList, OfTuple, Enters}
use Rattle.std.proofs.Common.{◌≡◌}
use Rattle.py_node.specs.declared.entry.IteratorNative.TheVariants as iterator
use Rattle.py_node.specs.declared.entry.ListNative.TheVariants as list
use Rattle.py_node.specs.declared.entry.TupleNative.TheVariants as tuple
use Rattle.native_containers.proofs.native_items.begin.Goals as goal

pub returns-in-OfTuple-GetItem-clause-goes : goal.returns-in-OfTuple-GetItem-clause-goes
returns-in-OfTuple-GetItem-clause-goes c =
    let a = c.args in
    let i = c.in-OfTuple-GetItem in
    let native = rw i.is at i.field-0-is in
    let is : a.entry ≡ OfTuple tuple.GetItem = i.is ∙ ap OfTuple native in
    let goes = rw (c.deref.ensures.value, c.deref-2.ensures.value) at c.get_item.ensures.goes in
    subst (λ n. IfOk c.get_item.result (λ step. Enters n a.args.items a.kw.items a.world.now c.get_item.new.world step)) (sym is) goes

pub returns-in-OfList-GetItem-clause-goes : goal.returns-in-OfList-GetItem-clause-goes
returns-in-OfList-GetItem-clause-goes c =
    let a = c.args in
    let i = c.in-OfList-GetItem in
    let native = rw i.is at i.field-0-is in
    let is : a.entry ≡ OfList list.GetItem = i.is ∙ ap OfList native in
    let goes = rw (c.deref.ensures.value, c.deref-2.ensures.value) at c.get_item-in-OfList-GetItem.ensures.goes in
    subst (λ n. IfOk c.get_item-in-OfList-GetItem.result (λ step. Enters n a.args.items a.kw.items a.world.now c.get_item-in-OfList-GetItem.new.world step)) (sym is) goes

pub returns-in-OfList-SetItem-clause-goes : goal.returns-in-OfList-SetItem-clause-goes
returns-in-OfList-SetItem-clause-goes c =
    let a = c.args in
    let i = c.in-OfList-SetItem in
    let native = rw i.is at i.field-0-is in
    let is : a.entry ≡ OfList list.SetItem = i.is ∙ ap OfList native in
    let goes = rw (c.deref.ensures.value, c.deref-2.ensures.value) at c.set_item.ensures.goes in
    subst (λ n. IfOk c.set_item.result (λ step. Enters n a.args.items a.kw.items a.world.now a.world.now step)) (sym is) goes

pub returns-in-OfList-DelItem-clause-goes : goal.returns-in-OfList-DelItem-clause-goes
returns-in-OfList-DelItem-clause-goes c =
    let a = c.args in
    let i = c.in-OfList-DelItem in
    let native = rw i.is at i.field-0-is in
    let is : a.entry ≡ OfList list.DelItem = i.is ∙ ap OfList native in
    let goes = rw (c.deref.ensures.value, c.deref-2.ensures.value) at c.delete_item.ensures.goes in
    subst (λ n. IfOk c.delete_item.result (λ step. Enters n a.args.items a.kw.items a.world.now c.delete_item.new.world step)) (sym is) goes

pub returns-in-OfList-InplaceAdd-clause-goes : goal.returns-in-OfList-InplaceAdd-clause-goes
returns-in-OfList-InplaceAdd-clause-goes c =
    let a = c.args in
    let i = c.in-OfList-InplaceAdd in
    let native = rw i.is at i.field-0-is in
    let is : a.entry ≡ OfList list.InplaceAdd = i.is ∙ ap OfList native in
    let goes = rw (c.deref.ensures.value, c.deref-2.ensures.value) at c.extend_list.ensures.goes in
    subst (λ n. IfOk c.extend_list.result (λ step. Enters n a.args.items a.kw.items a.world.now a.world.now step)) (sym is) goes

pub returns-in-OfIterator-Next-clause-goes : goal.returns-in-OfIterator-Next-clause-goes
returns-in-OfIterator-Next-clause-goes c =
    let a = c.args in
    let i = c.in-OfIterator-Next in
    let native = rw i.is at i.field-0-is in
    let is : a.entry ≡ OfIterator iterator.Next = i.is ∙ ap OfIterator native in
    let goes = rw (c.deref.ensures.value, c.deref-2.ensures.value) at c.next_item.ensures.goes in
    subst (λ n. IfOk c.next_item.result (λ step. Enters n a.args.items a.kw.items a.world.now c.next_item.new.world step)) (sym is) goes
