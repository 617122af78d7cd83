use Rattle.proto_object.proofs.Lemmas.{true, false, refl, ap, sym, subst, bindings, plain, no-nodes, other_keys, AreOthers, node-at, others-more, others-same}
use Rattle.std.proofs.Common.{◌+◌, ◌++◌}
use Rattle.proto_object.proofs.names.other_keys.Goals as goal
use Rattle.proto_object.proofs.names.other_keys.Goals.{then-not-has_name+in_ok-push, else-not-has_name}

pub loop-key-init : goal.loop-key-init
loop-key-init c =
    let a = c.args in
    let w = a.world.now in
    (rw c.new-others.ensures.items (no-nodes w), λ t r. ap (λ ys. ys ++ other_keys (plain t w) (bindings t a.attrs.now) a.keys.now) c.new-others.ensures.items)

pub has_name-requires-clause-key : goal.has_name-requires-clause-key
has_name-requires-clause-key c =
    node-at c.args.world.now c.args.keys.now c.loop-key.key-index (record { 0 = 0 }) c.requires.keys c.loop-key-test.true

pub loop-key-preserved : goal.loop-key-preserved
loop-key-preserved c =
    let a = c.args in
    let l = c.loop-key in
    let w = a.world.now in
    let bs = a.attrs.now in
    let keys = a.keys.now in
    let next = l.key-index + 1 in
    elim c.if-not-has_name.branch [
      | then-not-has_name+in_ok-push b ↦ subst (λ v. AreOthers w bs keys v.items next) (sym b.others-is) (subst (λ rs. AreOthers w bs keys rs next) (sym b.in_ok-push.ensures.items) (others-more w bs keys l.others.items l.key-index (record { 0 = 0 }) false c.loop-key-test.true l.invariant b.if-not-has_name.ensures c.requires.keys refl))
      | else-not-has_name b ↦ subst (λ v. AreOthers w bs keys v.items next) (sym b.others-is) (others-same w bs keys l.others.items l.key-index (record { 0 = 0 }) true c.loop-key-test.true l.invariant b.if-not-has_name.ensures refl)
    ]
