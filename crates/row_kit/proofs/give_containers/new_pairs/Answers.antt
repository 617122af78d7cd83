use Rattle.row_kit.proofs.Lemmas.{[], refl, sym, ap, ◌∙◌, subst, of_entries, of_pairs, plain, AllHold, AreNodes, no-nodes, more-nodes, all-grow, grows-itself, grows-on, pair-holds, keys-can, list_made, pairs_made, entries_at, then-if, pair-more, pairs-all}
use Rattle.std.proofs.Common.{◌≡◌}
use Rattle.row_kit.proofs.give_containers.new_pairs.Goals as goal

pub loop-entry-init : goal.loop-entry-init
loop-entry-init c =
    let w = c.args.world.now in
    rw c.new-pairs.ensures.items (record { made = λ t. refl; reads = λ t r. r; grows = grows-itself w; nodes = no-nodes w })

pub new_pair-requires-clause-key : goal.new_pair-requires-clause-key
new_pair-requires-clause-key c =
    let w = c.args.world.now in
    let es = c.deref-entry-items.result.now in
    let same : es ≡ c.entries.result.now = cc (c.deref-entry-items.ensures.value, c.in_ok-entries.ensures) in
    let holds = subst (λ xs. AllHold w (of_entries xs)) (sym same) c.entries.ensures.holds in
    (pair-holds c.loop-entry.world es c.loop-entry.entry-index _ c.loop-entry-test.true (all-grow w c.loop-entry.world c.loop-entry.invariant.grows (of_pairs es) (keys-can w es holds))).0

pub new_pair-requires-clause-value : goal.new_pair-requires-clause-value
new_pair-requires-clause-value c =
    let w = c.args.world.now in
    let es = c.deref-entry-items.result.now in
    let same : es ≡ c.entries.result.now = cc (c.deref-entry-items.ensures.value, c.in_ok-entries.ensures) in
    let holds = subst (λ xs. AllHold w (of_entries xs)) (sym same) c.entries.ensures.holds in
    (pair-holds c.loop-entry.world es c.loop-entry.entry-index _ c.loop-entry-test.true (all-grow w c.loop-entry.world c.loop-entry.invariant.grows (of_pairs es) (keys-can w es holds))).1

pub loop-entry-preserved : goal.loop-entry-preserved
loop-entry-preserved c =
    let old = c.loop-entry.world in
    let new = c.new_pair.new.world in
    let rs = c.loop-entry.pairs.items in
    let e = c.in_ok-pair.ensures in
    rw c.in_ok-push.ensures.items (record {
      made = λ t. c.loop-entry.invariant.made t ∙ pair-more (plain t old) (plain t new) rs c.in_ok-pair.pair c.deref-entry-items.result.now c.loop-entry.entry-index _ c.loop-entry-test.true (e.made t) (e.number t);
      reads = λ t r. c.loop-entry.invariant.reads t (e.reads t r);
      grows = grows-on c.args.world.now old new c.loop-entry.invariant.grows e.grows;
      nodes = more-nodes new rs c.in_ok-pair.pair (e.grows.still (AreNodes rs) c.loop-entry.invariant.nodes) e.node;
    })

pub returns-clause-ends : goal.returns-clause-ends
returns-clause-ends c =
    let w = c.args.world.now in
    let mid = c.loop-entry.world in
    let es = c.deref-entry-items.result.now in
    let rs = c.loop-entry.pairs.items in
    let same : es ≡ c.entries.result.now = cc (c.deref-entry-items.ensures.value, c.in_ok-entries.ensures) in
    then-if (λ t u. pairs_made u [] (entries_at u c.args.dict)) (λ t u. list_made u rs) w mid c.new_list.new.world c.new_list.result (λ t. ap (pairs_made (plain t w) []) (c.entries.ensures.same t ∙ sym same) ∙ c.loop-entry.invariant.made t ∙ pairs-all (plain t mid) rs es c.loop-entry.entry-index c.loop-entry-test.false) c.loop-entry.invariant.reads c.new_list.ensures.ends
