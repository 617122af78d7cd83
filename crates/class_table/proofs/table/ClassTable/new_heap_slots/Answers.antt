use Rattle.class_table.proofs.Lemmas.{subst, numbers, classes_of, AreTold, coherent-then}
use Rattle.class_table.proofs.InWords.{told}
use Rattle.class_table.proofs.table.ClassTable.new_heap_slots.Goals as goal

pub returns-clause-empty : goal.returns-clause-empty
returns-clause-empty c =
    let bs = numbers c.args.bases.items in
    (subst (λ u. AreTold u bs c.add_heap.result) c.self.view_is (told (classes_of c.self.inside.classes) bs c.add_heap.result c.add_heap.ensures.early c.add_heap.ensures.refused)).empty

pub returns-clause-base : goal.returns-clause-base
returns-clause-base c =
    let bs = numbers c.args.bases.items in
    (subst (λ u. AreTold u bs c.add_heap.result) c.self.view_is (told (classes_of c.self.inside.classes) bs c.add_heap.result c.add_heap.ensures.early c.add_heap.ensures.refused)).base

pub returns-clause-layout : goal.returns-clause-layout
returns-clause-layout c =
    let bs = numbers c.args.bases.items in
    (subst (λ u. AreTold u bs c.add_heap.result) c.self.view_is (told (classes_of c.self.inside.classes) bs c.add_heap.result c.add_heap.ensures.early c.add_heap.ensures.refused)).layout

pub returns-clause-duplicate : goal.returns-clause-duplicate
returns-clause-duplicate c =
    let bs = numbers c.args.bases.items in
    (subst (λ u. AreTold u bs c.add_heap.result) c.self.view_is (told (classes_of c.self.inside.classes) bs c.add_heap.result c.add_heap.ensures.early c.add_heap.ensures.refused)).duplicate

pub returns-clause-precedence : goal.returns-clause-precedence
returns-clause-precedence c =
    let bs = numbers c.args.bases.items in
    (subst (λ u. AreTold u bs c.add_heap.result) c.self.view_is (told (classes_of c.self.inside.classes) bs c.add_heap.result c.add_heap.ensures.early c.add_heap.ensures.refused)).precedence

pub returns-clause-conflict : goal.returns-clause-conflict
returns-clause-conflict c =
    let bs = numbers c.args.bases.items in
    (subst (λ u. AreTold u bs c.add_heap.result) c.self.view_is (told (classes_of c.self.inside.classes) bs c.add_heap.result c.add_heap.ensures.early c.add_heap.ensures.refused)).conflict

pub invariant_of-self : goal.invariant_of-self
invariant_of-self c = (coherent-then _ _ c.add_heap.result c.add_heap.ensures.coherent c.add_heap.ensures.err c.self.invariant.0, c.raise.ensures _ _ c.self.invariant.1)
