use Rattle.class_world.proofs.Lemmas.{arith, add-one, ap, [], Object, all_built_ins, map-step, map-end, built-count, in-row, class_node}
use Rattle.std.proofs.Common.{◌++◌, ◌∷◌}
use Rattle.class_world.proofs.start.class_nodes.Goals as goal

pub loop-row-preserved : goal.loop-row-preserved
loop-row-preserved c =
    let i = c.loop-row.row-index in
    let n = c.built_ins-row-items.ensures.count in
    let m = built-count in
    let t = c.loop-row-test.true in
    let here = in-row c.built_ins-row-items.result.now i c.built_ins-row-items.ensures.classes t in
    let h = map-step class_node all_built_ins i Object (omega (arith, n, m, t)) in
    rw (add-one, h, here, ← c.loop-row.invariant, c.in_ok-push.ensures.items) (ap (λ n. c.loop-row.nodes.items ++ n ∷ []) c.class_node.ensures)

pub returns : goal.returns
returns c =
    let i = c.loop-row.row-index in
    let n = c.built_ins-row-items.ensures.count in
    let m = built-count in
    let t = c.loop-row-test.false in
    rw c.loop-row.invariant (map-end class_node all_built_ins i (omega (arith, n, m, t)))
