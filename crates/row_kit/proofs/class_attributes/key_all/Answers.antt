use Rattle.row_kit.proofs.Lemmas.{[], suc, ap, arith, refl, ◌∙◌, length-append, IsName, IsNode, bindings, plain, grows-itself, grows-on, no-nodes, keyed, entry-holds, drop-got, keyed-next, pairs-push, pairs-grow, no-keys-yet, spelled-next, keys-differ}
use Rattle.std.proofs.Common.{◌≡◌, ◌∷◌, ◌++◌, ◌+◌, drop}
use Rattle.row_kit.proofs.class_attributes.key_all.Goals as goal

pub loop-i-init : goal.loop-i-init
loop-i-init c =
    let w = c.args.world.now in
    rw c.new-entries.ensures.items ((λ t r. (r, refl)), grows-itself w, (no-nodes w, no-nodes w), refl, (λ t r. no-keys-yet t (plain t w) c.args.attrs.now))

pub new_key-requires : goal.new_key-requires
new_key-requires c =
    c.loop-i.invariant.1.still (IsName c.at.result.0) (entry-holds c.args.world.now c.args.attrs.now c.loop-i.i c.at.result c.requires c.at.ensures).0

pub loop-i-preserved : goal.loop-i-preserved
loop-i-preserved c =
    let first = c.args.world.now in
    let old = c.loop-i.world in
    let new = c.new_key.new.world in
    let es = c.args.attrs.now in
    let e = c.at.result in
    let ps = c.loop-i.entries.items in
    let key = c.in_ok-key.key in
    let k = c.in_ok-key.ensures in
    let next : suc c.loop-i.i ≡ c.loop-i.i + 1 = omega arith in
    let value = k.grows.still (IsNode e.1) (c.loop-i.invariant.1.still (IsNode e.1) (entry-holds first es c.loop-i.i e c.requires c.at.ensures).1) in
    rw c.in_ok-push.ensures.items (
      (λ t r.
          let here = c.loop-i.invariant.0 t (k.reads t r) in (
            here.0,
            here.1 ∙ keyed-next t (plain t old) (plain t new) ps es c.loop-i.i e key (drop-got es c.loop-i.i e c.at.ensures) (k.made t (k.reads t r)) (k.number t)
                ∙ ap (λ n. keyed (plain t new) (ps ++ (key, e.1) ∷ []) (bindings t (drop n es))) next,
          )),
      grows-on first old new c.loop-i.invariant.1 k.grows,
      pairs-push new ps key e.1 (pairs-grow old new ps k.grows c.loop-i.invariant.2) k.node value,
      omega (arith, length-append ps ((key, e.1) ∷ []), c.loop-i.invariant.3),
      (λ t r. spelled-next t (plain t old) (plain t new) ps es c.loop-i.i e key e.1 c.loop-i.invariant.3 c.at.ensures (k.made t (k.reads t r)) (k.number t) (c.loop-i.invariant.4 t (k.reads t r))),
    )

pub returns-clause-holds : goal.returns-clause-holds
returns-clause-holds c =
    let r = c.readable.ensures in
    let apart = keys-differ r.0 c.loop-i.world c.loop-i.entries.items c.args.attrs.now (c.loop-i.invariant.4 r.0 r.1) c.len-i-end.ensures.distinct in
    (c.loop-i.invariant.2.0, (c.loop-i.invariant.2.1, (apart, tt)))
