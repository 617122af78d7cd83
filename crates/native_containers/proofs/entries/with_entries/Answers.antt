use Rattle.native_containers.proofs.Lemmas.{refl, sym, ap, ◌∙◌, subst, fold, with_entry, of_entries, of_pairs, plain, AllHold, all-grow, grows-itself, grows-on, keys-can, pair-holds, entries_at, entry-more, entries-all}
use Rattle.std.proofs.Common.{◌≡◌}
use Rattle.native_containers.proofs.entries.with_entries.Goals as goal

pub loop-entry-init : goal.loop-entry-init
loop-entry-init c = record { entries = λ t. c.in_ok-all.ensures.entries t; holds = c.in_ok-all.ensures.holds; same = λ t. refl; reads = λ t r. r; grows = grows-itself c.args.world.now }

pub with_entry-requires-clause-node : goal.with_entry-requires-clause-node
with_entry-requires-clause-node c =
    let w = c.args.world.now in
    let es = c.deref-entry-items.result.now in
    let same : es ≡ c.entries.result.now = cc (c.deref-entry-items.ensures.value, c.in_ok-more.ensures) in
    let holds = subst (λ xs. AllHold w (of_entries xs)) (sym same) c.entries.ensures.holds in
    (pair-holds c.loop-entry.world es c.loop-entry.entry-index _ c.loop-entry-test.true (all-grow w c.loop-entry.world c.loop-entry.invariant.grows (of_pairs es) (keys-can w es holds))).0

pub with_entry-requires-clause-key : goal.with_entry-requires-clause-key
with_entry-requires-clause-key c =
    let w = c.args.world.now in
    let es = c.deref-entry-items.result.now in
    let same : es ≡ c.entries.result.now = cc (c.deref-entry-items.ensures.value, c.in_ok-more.ensures) in
    let holds = subst (λ xs. AllHold w (of_entries xs)) (sym same) c.entries.ensures.holds in
    (pair-holds c.loop-entry.world es c.loop-entry.entry-index _ c.loop-entry-test.true (all-grow w c.loop-entry.world c.loop-entry.invariant.grows (of_pairs es) (keys-can w es holds))).2

pub with_entry-requires-clause-value : goal.with_entry-requires-clause-value
with_entry-requires-clause-value c =
    let w = c.args.world.now in
    let es = c.deref-entry-items.result.now in
    let same : es ≡ c.entries.result.now = cc (c.deref-entry-items.ensures.value, c.in_ok-more.ensures) in
    let holds = subst (λ xs. AllHold w (of_entries xs)) (sym same) c.entries.ensures.holds in
    (pair-holds c.loop-entry.world es c.loop-entry.entry-index _ c.loop-entry-test.true (all-grow w c.loop-entry.world c.loop-entry.invariant.grows (of_pairs es) (keys-can w es holds))).1

pub loop-entry-preserved : goal.loop-entry-preserved
loop-entry-preserved c =
    let w = c.args.world.now in
    let old = c.loop-entry.world in
    let new = c.with_entry.new.self in
    let e = c.in_ok-all-2.ensures in
    let i = c.loop-entry.invariant in
    record {
      entries = λ t. entry-more (plain t w) (plain t old) (entries_at (plain t w) c.args.dict) c.loop-entry.all.items c.in_ok-all-2.all.items c.deref-entry-items.result.now c.loop-entry.entry-index _ (i.same t) c.loop-entry-test.true (i.entries t) (e.entries t);
      holds = e.holds;
      same = λ t. e.same t ∙ i.same t;
      reads = λ t r. i.reads t (e.reads t r);
      grows = grows-on w old new i.grows e.grows;
    }

pub returns-clause-entries : goal.returns-clause-entries
returns-clause-entries c = λ t.
    let w = plain t c.args.world.now in
    let es = c.deref-entry-items.result.now in
    let same : es ≡ c.entries.result.now = cc (c.deref-entry-items.ensures.value, c.in_ok-more.ensures) in
    entries-all w (entries_at w c.args.dict) c.loop-entry.all.items es c.loop-entry.entry-index c.loop-entry-test.false (c.loop-entry.invariant.entries t)
    ∙ ap (fold (with_entry w) (entries_at w c.args.dict)) (same ∙ sym (c.entries.ensures.same t))
