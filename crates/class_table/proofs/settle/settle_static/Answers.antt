use Rattle.class_table.proofs.Lemmas.{List, Option, get_or, set, sym, ap, subst, ◌∙◌, get_or_default, SlotEntry, place_of, StoredClass, classes_of, HasLines, AreHeapsSettled, element, part, part-start, part-end, part-lines, part-then, part-heaps, written-inside}
use Rattle.std.proofs.Common.{◌≡◌, ◌+◌}
use Rattle.class_table.proofs.settle.settle_static.Goals as goal

pub loop-place-init : goal.loop-place-init
loop-place-init c = record {
  lines = c.requires.lines;
  heaps = c.requires.heaps;
  is = λ d. part-start c.args.classes.now c.args.at (get_or c.args.classes.now c.args.at d) c.requires.inside (get_or_default c.args.classes.now c.args.at d (get_or c.args.classes.now c.args.at d) c.requires.inside);
}

pub loop-place-preserved : goal.loop-place-preserved
loop-place-preserved c =
    let kept = c.args.classes.now in
    let at = c.args.at in
    let i = c.loop-place.place in
    let cur = c.loop-place.classes in
    let s = c.at-slot.result in
    let e = element kept at c.requires.inside in
    let same : (d : StoredClass) → get_or kept at d ≡ get_or kept at (get_or kept at d) = λ d. get_or_default kept at d (get_or kept at d) c.requires.inside in
    let is : (d : StoredClass) → c.put_slot.new.classes ≡ set kept at (part (classes_of kept) (i + 1) (get_or kept at d)) = λ d.
    let k = get_or kept at d in
    part-then kept at k c.requires.inside (same d) i s cur c.put_slot.new.classes c.at-slot.ensures (c.requires.full d) (c.loop-place.invariant.is d) (c.put_slot.ensures k ∙ ap (λ (w : Option SlotEntry). set cur at (record (get_or cur at k) { slots = set (get_or cur at k).slots (place_of s) w })) (c.static_entry-entry.ensures k)) in
    let P : List StoredClass → Type 0 = λ ys. HasLines ys in
    let Q : List StoredClass → Type 0 = λ ys. AreHeapsSettled ys in
    record {
      lines = subst P (sym (is e)) (part-lines kept at (get_or kept at e) c.requires.inside (same e) (i + 1) c.requires.lines);
      heaps = subst Q (sym (is e)) (part-heaps kept at (get_or kept at e) c.requires.inside (same e) (c.requires.not_heap e) c.requires.heaps (i + 1));
      is = is;
    }

pub returns : goal.returns
returns c = λ d. c.loop-place.invariant.is d ∙ part-end c.args.classes.now c.args.at (get_or c.args.classes.now c.args.at d) c.requires.inside (get_or_default c.args.classes.now c.args.at d (get_or c.args.classes.now c.args.at d) c.requires.inside) c.loop-place.place c.loop-place-test.false (c.requires.full d)

pub static_entry-entry-requires-clause-inside : goal.static_entry-entry-requires-clause-inside
static_entry-entry-requires-clause-inside c =
    let e = element c.args.classes.now c.args.at c.requires.inside in
    written-inside c.args.classes.now c.loop-place.classes c.args.at _ c.requires.inside (c.loop-place.invariant.is e)

pub put_slot-requires : goal.put_slot-requires
put_slot-requires c =
    let e = element c.args.classes.now c.args.at c.requires.inside in
    written-inside c.args.classes.now c.loop-place.classes c.args.at _ c.requires.inside (c.loop-place.invariant.is e)
