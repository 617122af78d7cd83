use Rattle.row_kit.proofs.Lemmas.{add-one, refl, ap, map, ◌∙◌, [], arith, PyTypeRef, ref, no-nodes, more-nodes, nodes-next, nodes-end, class-among}
use Rattle.std.proofs.Common.{take, ◌++◌, ◌∷◌}
use Rattle.row_kit.proofs.class_nodes.class_nodes.Goals as goal

pub loop-class-init : goal.loop-class-init
loop-class-init c = rw c.new-nodes.ensures.items (record { items = refl; holds = no-nodes c.args.world.now })

pub class_node-requires : goal.class_node-requires
class_node-requires c = c.requires _ (class-among c.args.classes.now c.loop-class.class-index (record { 0 = 0 }) c.loop-class-test.true)

pub loop-class-preserved : goal.loop-class-preserved
loop-class-preserved c =
    let l = c.loop-class in
    let r = c.class_node.result in
    let cs = c.args.classes.now in
    rw (add-one, c.in_ok-push.ensures.items) (record {
      items = ap (λ rs. rs ++ r ∷ []) l.invariant.items ∙ ap (λ x. map (λ (k : PyTypeRef). ref k.0) (take l.class-index cs) ++ x ∷ []) c.class_node.ensures.reads ∙ nodes-next cs l.class-index (record { 0 = 0 }) c.loop-class-test.true;
      holds = more-nodes c.args.world.now l.nodes.items r l.invariant.holds c.class_node.ensures.node;
    })

pub returns-clause-items : goal.returns-clause-items
returns-clause-items c =
    c.loop-class.invariant.items ∙ nodes-end c.args.classes.now c.loop-class.class-index (omega (arith, c.loop-class-test.false))
