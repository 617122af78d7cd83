use Rattle.class_table.proofs.Lemmas.{List, get_or, set, sym, subst, ◌∙◌, get_or_default, slice_get-get_or, StoredClass, classes_of, HasLines, element, part, part-start, part-end, part-lines, slot-found, heap-entry-is, part-written, written-inside}
use Rattle.std.proofs.Common.{◌≡◌, ◌+◌}
use Rattle.class_table.proofs.settle.settle_heap.Goals as goal

pub loop-place-init : goal.loop-place-init
loop-place-init g c = record {
  lines = c.requires.lines;
  is = λ d. part-start c.args.classes.now c.args.at (get_or c.args.classes.now c.args.at d) c.requires.inside (get_or_default c.args.classes.now c.args.at d (get_or c.args.classes.now c.args.at d) c.requires.inside);
}

pub loop-place-preserved : goal.loop-place-preserved
loop-place-preserved g c =
    let kept = c.args.classes.now in
    let at = c.args.at in
    let i = c.loop-place.place in
    let e = element kept at c.requires.inside in
    let same : (d : StoredClass) → get_or kept at d ≡ get_or kept at (get_or kept at d) = λ d. get_or_default kept at d (get_or kept at d) c.requires.inside in
    let is : (d : StoredClass) → c.put_slot.new.classes ≡ set kept at (part (classes_of kept) (i + 1) (get_or kept at d)) = λ d.
    let k = get_or kept at d in
    part-written kept at k c.requires.inside (same d) i c.at-slot.result c.slot_by-entry.result c.loop-place.classes c.put_slot.new.classes c.at-slot.ensures (c.requires.full d) (c.loop-place.invariant.is d) (c.slot_by-entry.ensures ∙ slot-found (classes_of kept) k.number k.mro c.values_for-values.result (c.values_for-values.ensures.found d) c.at-slot.result ∙ sym (heap-entry-is kept c.requires.lines at k (slice_get-get_or kept at d c.requires.inside) (c.requires.heap d) c.at-slot.result)) (c.put_slot.ensures k) in
    let P : List StoredClass → Type 0 = λ ys. HasLines ys in
    record {
      lines = subst P (sym (is e)) (part-lines kept at (get_or kept at e) c.requires.inside (same e) (i + 1) c.requires.lines);
      is = is;
    }

pub returns-clause-set : goal.returns-clause-set
returns-clause-set g c = λ d. c.loop-place.invariant.is d ∙ part-end c.args.classes.now c.args.at (get_or c.args.classes.now c.args.at d) c.requires.inside (get_or_default c.args.classes.now c.args.at d (get_or c.args.classes.now c.args.at d) c.requires.inside) c.loop-place.place c.loop-place-test.false (c.requires.full d)

pub put_slot-requires : goal.put_slot-requires
put_slot-requires g c =
    let e = element c.args.classes.now c.args.at c.requires.inside in
    written-inside c.args.classes.now c.loop-place.classes c.args.at _ c.requires.inside (c.loop-place.invariant.is e)
