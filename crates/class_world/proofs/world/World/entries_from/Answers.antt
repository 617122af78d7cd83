use Rattle.class_world.proofs.Lemmas.{refl, ap, ◌∙◌, PlainDict, of_pairs, plain, all-grow, none-hold, grows-itself, grows-on, pair-holds, one-more, all-pairs}
use Rattle.class_world.proofs.world.World.entries_from.Goals as goal

pub loop-pair-init : goal.loop-pair-init
loop-pair-init c =
    let w = c.args.self.now in
    record { entries = λ t. ap (λ (d : PlainDict). d.items) c.new-dict.ensures; holds = rw c.new-dict.ensures (none-hold w); same = λ t. refl; reads = λ t r. r; grows = grows-itself w }

pub with_entry-requires-clause-node : goal.with_entry-requires-clause-node
with_entry-requires-clause-node c =
    let ps = c.args.pairs.now in
    (pair-holds c.loop-pair.self ps c.loop-pair.pair-index _ c.loop-pair-test.true (all-grow c.args.self.now c.loop-pair.self c.loop-pair.invariant.grows (of_pairs ps) c.requires)).0

pub with_entry-requires-clause-key : goal.with_entry-requires-clause-key
with_entry-requires-clause-key c =
    let ps = c.args.pairs.now in
    (pair-holds c.loop-pair.self ps c.loop-pair.pair-index _ c.loop-pair-test.true (all-grow c.args.self.now c.loop-pair.self c.loop-pair.invariant.grows (of_pairs ps) c.requires)).2

pub with_entry-requires-clause-value : goal.with_entry-requires-clause-value
with_entry-requires-clause-value c =
    let ps = c.args.pairs.now in
    (pair-holds c.loop-pair.self ps c.loop-pair.pair-index _ c.loop-pair-test.true (all-grow c.args.self.now c.loop-pair.self c.loop-pair.invariant.grows (of_pairs ps) c.requires)).1

pub loop-pair-preserved : goal.loop-pair-preserved
loop-pair-preserved c =
    let w = c.args.self.now in
    let old = c.loop-pair.self in
    let new = c.with_entry.new.self in
    let e = c.in_ok-dict.ensures in
    let i = c.loop-pair.invariant in
    record {
      entries = λ t. one-more (plain t w) (plain t old) c.loop-pair.dict.items c.args.pairs.now c.in_ok-dict.dict.items c.loop-pair.pair-index _ (i.same t) c.loop-pair-test.true (i.entries t) (e.entries t);
      holds = e.holds;
      same = λ t. e.same t ∙ i.same t;
      reads = λ t r. i.reads t (e.reads t r);
      grows = grows-on w old new i.grows e.grows;
    }

pub returns-clause-entries : goal.returns-clause-entries
returns-clause-entries c = λ t. all-pairs (plain t c.args.self.now) c.loop-pair.dict.items c.args.pairs.now c.loop-pair.pair-index c.loop-pair-test.false (c.loop-pair.invariant.entries t)
