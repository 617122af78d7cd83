use Rattle.native_containers.proofs.Lemmas.{◌∙◌, plain, no-nodes, more-nodes, pair-holds, keys-can, value-more, values-first}
use Rattle.native_containers.proofs.native_compare.dicts.values_under.Goals as goal

pub loop-entry-init : goal.loop-entry-init
loop-entry-init c =
    let w = c.args.world.now in
    rw c.new-values.ensures.items (record { values = λ t. values-first (plain t w) c.args.dict c.args.entries.now; holds = no-nodes w })

pub value_under-requires-clause-key : goal.value_under-requires-clause-key
value_under-requires-clause-key c =
    let w = c.args.world.now in
    let es = c.args.entries.now in
    (pair-holds w es c.loop-entry.entry-index _ c.loop-entry-test.true (keys-can w es c.requires.entries)).0

pub loop-entry-preserved : goal.loop-entry-preserved
loop-entry-preserved c =
    let w = c.args.world.now in
    let vs = c.loop-entry.values.items in
    let v = c.in-Some.value in
    rw c.in_ok-push-in-Some.ensures.items (record {
      values = λ t.
          c.loop-entry.invariant.values t
          ∙ value-more (plain t w) c.args.dict c.args.entries.now vs c.loop-entry.entry-index _ v c.loop-entry-test.true (c.value_under.ensures.value t ∙ c.in-Some.is);
      holds = more-nodes w vs v c.loop-entry.invariant.holds c.in-Some.ensures.node;
    })
