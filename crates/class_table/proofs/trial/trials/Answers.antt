use Rattle.class_table.proofs.Lemmas.{get_or, refl, slice_get_within, slice_get-get_or, numbers, Ranked, rise-then, known-now, tried-more, tried-end}
use Rattle.class_table.proofs.trial.trials.Goals as goal

pub attempt-requires-clause-inside : goal.attempt-requires-clause-inside
attempt-requires-clause-inside g c =
    let i = c.loop-next.next-index in
    let r : Ranked = get_or c.args.ranked.now i (record { place = 0; length = 0 }) in
    let d = c.requires.ranked.within i r (slice_get-get_or c.args.ranked.now i (record { place = 0; length = 0 }) c.loop-next-test.true) in
    slice_get_within c.args.change.classes.now r.place d.class d.at

pub attempt-requires-clause-known : goal.attempt-requires-clause-known
attempt-requires-clause-known g c = λ k b e h.
    let i = c.loop-next.next-index in
    let r : Ranked = get_or c.args.ranked.now i (record { place = 0; length = 0 }) in
    known-now c.args.change.classes.now c.requires.coherent c.args.change.class.0 (numbers c.args.change.bases.now) r.place k e c.requires.there c.requires.apart c.args.ranked.now i r c.loop-next.trials c.requires.ranked (slice_get-get_or c.args.ranked.now i (record { place = 0; length = 0 }) c.loop-next-test.true) refl c.loop-next.invariant.tried b h

pub loop-next-preserved : goal.loop-next-preserved
loop-next-preserved g c =
    let i = c.loop-next.next-index in
    let r : Ranked = get_or c.args.ranked.now i (record { place = 0; length = 0 }) in
    record {
      tried = tried-more c.args.change.classes.now c.args.change.class.0 (numbers c.args.change.bases.now) c.args.ranked.now i c.loop-next.trials c.insert.new.self r c.in_ok-trial.trial c.loop-next.invariant.tried (slice_get-get_or c.args.ranked.now i (record { place = 0; length = 0 }) c.loop-next-test.true) c.in_ok-insert.ensures c.in_ok-trial.ensures.trial;
      steps = rise-then i 0 1 0 c.args.steps.now c.loop-next.steps c.attempt.new.steps c.loop-next.invariant.steps c.in_ok-trial.ensures.steps;
    }

pub returns-clause-known : goal.returns-clause-known
returns-clause-known g c =
    tried-end c.args.change.classes.now c.args.change.class.0 (numbers c.args.change.bases.now) c.args.ranked.now c.loop-next.next-index c.loop-next.trials c.requires.ranked c.loop-next.invariant.tried c.loop-next-test.false
