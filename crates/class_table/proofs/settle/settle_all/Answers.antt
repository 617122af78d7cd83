use Rattle.class_table.proofs.Lemmas.{refl, arith, is_heap, class_of, is_heap_ranked, settled-plain, settled-lines, settled-full, heaps-settled, settled-both}
use Rattle.class_table.proofs.settle.settle_all.Goals as goal

pub settle_statics-requires-clause-lines : goal.settle_statics-requires-clause-lines
settle_statics-requires-clause-lines g c =
    let rs = c.args.ranked.now in
    let s = c.settle_heaps.ensures.settled in
    let plain = settled-plain (λ k. is_heap (class_of k)) (λ t k. refl) (is_heap_ranked rs) c.args.classes.now c.settle_heaps.new.classes s in
    settled-lines (is_heap_ranked rs) c.args.classes.now c.settle_heaps.new.classes s plain c.requires.lines

pub settle_statics-requires-clause-heaps : goal.settle_statics-requires-clause-heaps
settle_statics-requires-clause-heaps g c =
    let rs = c.args.ranked.now in
    let s = c.settle_heaps.ensures.settled in
    let plain = settled-plain (λ k. is_heap (class_of k)) (λ t k. refl) (is_heap_ranked rs) c.args.classes.now c.settle_heaps.new.classes s in
    heaps-settled rs c.args.classes.now c.settle_heaps.new.classes s plain c.requires.away

pub settle_statics-requires-clause-full : goal.settle_statics-requires-clause-full
settle_statics-requires-clause-full g c =
    let rs = c.args.ranked.now in
    let s = c.settle_heaps.ensures.settled in
    let plain = settled-plain (λ k. is_heap (class_of k)) (λ t k. refl) (is_heap_ranked rs) c.args.classes.now c.settle_heaps.new.classes s in
    settled-full (is_heap_ranked rs) c.args.classes.now c.settle_heaps.new.classes s plain c.requires.full

pub settle_statics-requires-clause-inside : goal.settle_statics-requires-clause-inside
settle_statics-requires-clause-inside g c = λ j r e.
    let l = c.requires.inside j r e in
    let n = c.settle_heaps.ensures.settled.count in
    omega (arith, l, n)

pub returns-clause-settled : goal.returns-clause-settled
returns-clause-settled g c =
    settled-both (λ k. is_heap (class_of k)) (λ t k. refl) c.args.ranked.now c.args.classes.now c.settle_heaps.new.classes c.settle_statics.new.classes c.settle_heaps.ensures.settled c.settle_statics.ensures
