use Rattle.class_table.proofs.Lemmas.{Some, map, take, add-one, ap, sym, subst, ◌∙◌, arith, true, Object, PyStrInterned, length-map, PyTypeRef, numbers, Class, base_of, all_built_ins, built_class, says_dict, has_its_dict, base_below, map-step, map-end, built-below, built-count, in-row, one-below, one-long, made-place, made-there, made-limit, built-dict}
use Rattle.std.proofs.Common.{◌≡◌, ◌<◌}
use Rattle.py_node.specs.BuiltIns.{place_of}
use Rattle.class_table.proofs.table.ClassTable.bare.Goals as goal

pub loop-row-preserved : goal.loop-row-preserved
loop-row-preserved c =
    let i = c.loop-row.row-index in
    let rows = c.built_ins-row-items.result.now in
    let e = c.built_ins-row-items.ensures.classes in
    let n = c.built_ins-row-items.ensures.count in
    let m = built-count in
    let t = c.loop-row-test.true in
    let h = map-step (built_class {K = PyStrInterned}) all_built_ins i Object (omega (arith, n, m, t)) in
    rw (add-one, h, in-row rows i e t, ← c.loop-row.invariant, ← c.in_ok-new.ensures) c.in_ok-add_class.ensures.added

pub returns : goal.returns
returns c =
    let i = c.loop-row.row-index in
    let n = c.built_ins-row-items.ensures.count in
    let m = built-count in
    let t = c.loop-row-test.false in
    rw c.loop-row.invariant (map-end (built_class {K = PyStrInterned}) all_built_ins i (omega (arith, n, m, t)))

pub add_class-requires : goal.add_class-requires
add_class-requires c =
    let i = c.loop-row.row-index in
    let rows = c.built_ins-row-items.result.now in
    let n = c.built_ins-row-items.ensures.count in
    let t = c.loop-row-test.true in
    let l : i < 23 = omega (arith, n, t) in
    let here = in-row rows i c.built_ins-row-items.ensures.classes t in
    let made = c.in_ok-new.ensures in
    let called : c.in_ok-new.new.number.0 ≡ i = ap (λ (k : Class PyStrInterned). k.number) made ∙ ap place_of (sym here) ∙ made-place i Object l in
    let below = ap (λ (k : Class PyStrInterned). k.bases) made in
    let few = one-long (numbers c.in_ok-new.new.bases.items) _ below in
    let long = length-map c.in_ok-new.new.bases.items (λ (r : PyTypeRef). r.0) in
    let class = made ∙ ap built_class (sym here) in
    let P : Class PyStrInterned → Type 0 = λ k. says_dict (Some k) ≡ has_its_dict (map (built_class {K = PyStrInterned}) (take i all_built_ins)) (Some k) in
    let dict = subst P (sym class) (built-dict i i Object l) in
    rw (called, c.loop-row.invariant) (record { below = one-below _ i (numbers c.in_ok-new.new.bases.items) _ below (subst (λ b. base_below i (base_of b) ≡ true) here (built-below i Object l)) (made-there i (omega arith)); one = omega (arith, few, long); fresh = made-limit i (omega arith); dict = dict })
