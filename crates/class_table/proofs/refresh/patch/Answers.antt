use Rattle.class_table.proofs.Lemmas.{ℕ, List, get_or, set, sym, ap, subst, ◌∙◌, arith, get_or_default, StoredClass, classes_of, HasLines, element, part, part-start, part-end, part-lines, part-then, part-else, part-skip, written-inside}
use Rattle.std.proofs.Common.{◌≡◌, ◌+◌, ◌-◌, ◌≤◌}
use Rattle.class_table.proofs.refresh.patch.Goals as goal
use Rattle.class_table.proofs.refresh.patch.Goals.{then-is_name_of, else-is_name_of}

pub loop-place-init : goal.loop-place-init
loop-place-init c =
    let kept = c.args.classes.now in
    let at = c.args.at in
    let first = c.args.first in
    let l : first + 0 ≤ 73 = omega (arith, c.requires.within) in
    let j : first + 0 ≡ first = omega arith in
    record {
      within = c.requires.within;
      lines = c.requires.lines;
      is = λ d.
          let k = get_or kept at d in
          let same = get_or_default kept at d (get_or kept at d) c.requires.inside in
          part-start kept at k c.requires.inside same
          ∙ part-skip kept at k c.requires.inside same c.args.name first 0 l (c.requires.near d) (λ m s a b e. c.requires.before m s a (omega (arith, b)) e)
          ∙ ap (λ (m : ℕ). set kept at (part (classes_of kept) m k)) j;
    }

pub loop-place-preserved : goal.loop-place-preserved
loop-place-preserved c =
    let kept = c.args.classes.now in
    let at = c.args.at in
    let i = c.loop-place.place in
    let s = c.at-slot.result in
    let same : (d : StoredClass) → get_or kept at d ≡ get_or kept at (get_or kept at d) = λ d. get_or_default kept at d (get_or kept at d) c.requires.inside in
    let is : (d : StoredClass) → c.if-is_name_of.classes ≡ set kept at (part (classes_of kept) (i + 1) (get_or kept at d)) = λ d.
    elim c.if-is_name_of.branch [
      | then-is_name_of w ↦
          part-then kept at (get_or kept at d) c.requires.inside (same d) i s c.loop-place.classes c.if-is_name_of.classes c.at-slot.ensures (c.requires.near d).count (c.loop-place.invariant.is d) (w.classes-is ∙ w.patch_slot.ensures (get_or kept at d))
      | else-is_name_of w ↦
          w.classes-is ∙ c.loop-place.invariant.is d ∙ part-else kept at (get_or kept at d) c.requires.inside (same d) i s c.args.name c.at-slot.ensures (c.requires.near d) (sym c.is_name_of.ensures ∙ w.if-is_name_of.false)
    ] in
    let most : c.args.past ≤ 73 = c.requires.ends in
    record {
      within = omega (arith, c.loop-place-test.true, most);
      lines = let P : List StoredClass → Type 0 = λ ys. HasLines ys in
          subst P (sym (is (element kept at c.requires.inside))) (part-lines kept at (get_or kept at (element kept at c.requires.inside)) c.requires.inside (same (element kept at c.requires.inside)) (i + 1) c.requires.lines);
      is = is;
    }

pub returns : goal.returns
returns c = λ d.
    let kept = c.args.classes.now in
    let at = c.args.at in
    let n = c.loop-place.place in
    let k = get_or kept at d in
    let same = get_or_default kept at d (get_or kept at d) c.requires.inside in
    let within : n ≤ 73 = c.loop-place.invariant.within in
    let e : (73 - n) + n ≡ 73 = omega (arith, within) in
    let l : (73 - n) + n ≤ 73 = omega (arith, within) in
    c.loop-place.invariant.is d
    ∙ part-skip kept at k c.requires.inside same c.args.name (73 - n) n l (c.requires.near d) (λ m s a b f. c.requires.behind m s (omega (arith, a, c.loop-place-test.false)) (omega (arith, b, within)) f)
    ∙ part-end kept at k c.requires.inside same ((73 - n) + n) (omega (arith, e)) (c.requires.near d).count

pub patch_slot-requires-clause-inside : goal.patch_slot-requires-clause-inside
patch_slot-requires-clause-inside c =
    let e = element c.args.classes.now c.args.at c.requires.inside in
    written-inside c.args.classes.now c.loop-place.classes c.args.at _ c.requires.inside (c.loop-place.invariant.is e)
