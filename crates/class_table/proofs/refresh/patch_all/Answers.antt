use Rattle.class_table.proofs.Lemmas.{List, set, length, cond, Some, refl, sym, ap, subst, ◌∙◌, arith, lt-ltb, le-ltb, slice_get_within, get_or_default, length-set, StoredClass, classes_of, HasLines, refreshed_one, settled, IsNear, plain-set, lines-set, refreshed-then, refreshed-else, near-now}
use Rattle.std.proofs.Common.{◌≡◌, ◌<◌}
use Rattle.class_table.proofs.refresh.patch_all.Goals as goal
use Rattle.class_table.proofs.refresh.patch_all.Goals.{then-derives, else-derives}

pub loop-place-init : goal.loop-place-init
loop-place-init c = record { count = refl; lines = c.requires.lines; same = refl; at = λ i k e. e ∙ sym (ap (λ b. Some (cond b (refreshed_one (classes_of c.args.classes.now) c.args.class.0 k) k)) (le-ltb i 0 (omega arith))) }

pub loop-place-preserved : goal.loop-place-preserved
loop-place-preserved c =
    let orig = c.args.classes.now in
    let cur = c.loop-place.classes in
    let n = c.loop-place.place in
    let x = c.at.result in
    let held = c.at.ensures in
    let count = c.loop-place.invariant.count in
    let inside : n < length cur = omega (arith, count) in
    elim c.if-derives.branch [
      | then-derives w ↦
          let is : c.if-derives.classes ≡ set cur n (settled (classes_of cur) x) = w.classes-is ∙ w.patch.ensures x ∙ ap (λ (z : StoredClass). set cur n (settled (classes_of cur) z)) (sym held) in
          let P : List StoredClass → Type 0 = λ ys. HasLines ys in
          record {
            count = ap length is ∙ length-set cur n (settled (classes_of cur) x) ∙ count;
            lines = subst P (sym is) (lines-set cur n x (settled (classes_of cur) x) c.loop-place.invariant.lines inside held refl refl);
            same = ap classes_of is ∙ plain-set cur n x (settled (classes_of cur) x) inside held refl ∙ c.loop-place.invariant.same;
            at = refreshed-then c.args.class.0 n orig cur c.if-derives.classes c.loop-place.invariant.same c.loop-place.invariant.at x inside held (sym c.derives.ensures ∙ w.if-derives.true) is;
          }
      | else-derives w ↦
          let P : List StoredClass → Type 0 = λ ys. HasLines ys in
          record {
            count = ap length w.classes-is ∙ count;
            lines = subst P (sym w.classes-is) c.loop-place.invariant.lines;
            same = ap classes_of w.classes-is ∙ c.loop-place.invariant.same;
            at = refreshed-else c.args.class.0 n orig cur c.if-derives.classes c.loop-place.invariant.same c.loop-place.invariant.at x held (sym c.derives.ensures ∙ w.if-derives.false) w.classes-is;
          }
    ]

pub patch-requires : goal.patch-requires
patch-requires c =
    let cur = c.loop-place.classes in
    let n = c.loop-place.place in
    let x = c.at.result in
    let held = c.at.ensures in
    let count = c.loop-place.invariant.count in
    let inside : n < length cur = omega (arith, count) in
    record {
      lines = c.loop-place.invariant.lines;
      within = c.first_named-first.ensures.within;
      ends = c.past_named-past.ensures.within;
      before = c.first_named-first.ensures.before;
      behind = c.past_named-past.ensures.behind;
      inside = inside;
      near = λ d.
          let P : StoredClass → Type 0 = λ z. IsNear (classes_of cur) c.args.name z in
          subst P (held ∙ get_or_default cur n x d inside) (near-now c.args.class.0 n c.args.classes.now cur cur c.loop-place.invariant.same c.loop-place.invariant.at c.args.name x c.requires.near c.loop-place.invariant.count (omega (arith, count)) held (sym c.derives.ensures ∙ c.if-derives.true));
    }

pub returns : goal.returns
returns c = record {
  count = c.loop-place.invariant.count;
  at = λ i k e.
      let l = slice_get_within c.args.classes.now i k e in
      let b : i < c.loop-place.place = omega arith in
      c.loop-place.invariant.at i k e ∙ ap (λ b. Some (cond b (refreshed_one (classes_of c.args.classes.now) c.args.class.0 k) k)) (lt-ltb i c.loop-place.place b);
}
