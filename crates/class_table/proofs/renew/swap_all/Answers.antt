use Rattle.class_table.proofs.Lemmas.{ℕ, List, length, get_or, set, sym, subst, arith, get_or_default, slice_get-get_or, StoredClass, renewed_but_line, Includes-in, element, Swapping, swapping-line, but-line, swapping-start, swapping-next, swapping-end}
use Rattle.std.proofs.Common.{◌≡◌, ◌+◌, ◌<◌}
use Rattle.class_table.proofs.renew.swap_all.Goals as goal

pub loop-index-init : goal.loop-index-init
loop-index-init c = swapping-start c.args.renewed.items c.args.classes.now c.args.places.now

pub swap_at-requires : goal.swap_at-requires
swap_at-requires c =
    let i = c.loop-index.index in
    let l = c.requires.inside (get_or c.args.places.now i 0) (Includes-in c.args.places.now i 0 c.loop-index-test.true) in
    let n = c.loop-index.invariant.count in
    omega (arith, l, n)

pub loop-index-preserved : goal.loop-index-preserved
loop-index-preserved c =
    let i = c.loop-index.index in
    let places = c.args.places.now in
    let cur = c.loop-index.classes in
    let p : ℕ = get_or places i 0 in
    let l = c.requires.inside p (Includes-in places i 0 c.loop-index-test.true) in
    let n = c.loop-index.invariant.count in
    let inside : p < length cur = omega (arith, l, n) in
    let d = element cur p inside in
    let x : StoredClass = get_or cur p d in
    let y = c.index_mut.result.now in
    let held : x ≡ get_or cur p x = get_or_default cur p d x inside in
    let here = slice_get-get_or places i 0 c.loop-index-test.true in
    let within : p < length c.args.classes.now = c.requires.inside p (Includes-in places i 0 c.loop-index-test.true) in
    let k = get_or c.args.classes.now p (element c.args.classes.now p within) in
    let at-k = slice_get-get_or c.args.classes.now p (element c.args.classes.now p within) within in
    let some : i < length c.args.renewed.items = let t = c.loop-index-test.true in let m = c.requires.count in omega (arith, t, m) in
    let at-r = slice_get-get_or c.args.renewed.items i y some in
    let line = swapping-line c.args.renewed.items c.args.classes.now places i c.loop-index.renewed.items cur c.loop-index.invariant c.requires.distinct p here k at-k (get_or c.args.renewed.items i y) at-r (c.requires.lines i p k (get_or c.args.renewed.items i y) here at-k at-r) x y held c.index_mut.ensures.value in
    let P : List StoredClass → Type 0 = λ ys. Swapping c.args.renewed.items c.args.classes.now places (i + 1) (set c.loop-index.renewed.items i c.swap_at.new.renewed) ys in
    subst P (sym (c.swap_at.ensures d)) (swapping-next c.args.renewed.items c.args.classes.now places i c.loop-index.renewed.items cur c.loop-index.invariant c.requires.distinct p (slice_get-get_or places i 0 c.loop-index-test.true) inside x y (renewed_but_line y x) c.swap_at.new.renewed held c.index_mut.ensures.value (but-line y x line))

pub returns : goal.returns
returns c = swapping-end c.args.renewed.items c.args.classes.now c.args.places.now c.loop-index.index c.loop-index.renewed.items c.loop-index.classes c.loop-index.invariant c.loop-index-test.false
