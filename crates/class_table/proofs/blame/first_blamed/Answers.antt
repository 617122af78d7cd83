use Rattle.class_table.proofs.Lemmas.{get_or, Option, Some, sym, ap, subst, ◌∙◌, slice_get, slice_get-get_or, has, numbers, StoredClass, Blame, Ranked, AreBlame, AreReached, reached-all, reached-skip, reached-more, blame-more}
use Rattle.std.proofs.Common.{◌≡◌, ◌+◌}
use Rattle.class_table.proofs.blame.first_blamed.Goals as goal
use Rattle.class_table.proofs.blame.first_blamed.Goals.{in-None, in-Some}

pub cause_at-requires-clause-derives : goal.cause_at-requires-clause-derives
cause_at-requires-clause-derives c = λ k e.
    let i = c.loop-next.next-index in
    let r : Ranked = get_or c.args.ranked.now i (record { place = 0; length = 0 }) in
    let d = c.requires.ranked.within i r (slice_get-get_or c.args.ranked.now i (record { place = 0; length = 0 }) c.loop-next-test.true) in
    let same : d.class ≡ k = let q = d.at in cc in
    ap (λ (z : StoredClass). has z.mro c.args.change.class.0) (sym same) ∙ d.derives

pub loop-next-preserved : goal.loop-next-preserved
loop-next-preserved c =
    let kept = c.args.change.classes.now in
    let class = c.args.change.class.0 in
    let bs = numbers c.args.change.bases.now in
    let ranked = c.args.ranked.now in
    let i = c.loop-next.next-index in
    let r : Ranked = get_or ranked i (record { place = 0; length = 0 }) in
    let here : slice_get ranked i ≡ Some r = slice_get-get_or ranked i (record { place = 0; length = 0 }) c.loop-next-test.true in
    let P : Option Blame → Type 0 = λ o. AreBlame kept class bs o in
    let Q : Option Blame → Type 0 = λ o. AreReached kept class bs ranked (i + 1) o in
    elim c.match-cause_at.branch [
      | in-None w ↦ record {
        blame = subst P (sym w.first-is) c.loop-next.invariant.blame;
        reached = subst Q (sym w.first-is) (reached-skip kept c.requires.coherent class bs ranked c.requires.ranked i r c.loop-next.first here w.in-None.ensures.none c.loop-next.invariant.reached);
      }
      | in-Some w ↦ record {
        blame = subst P (sym w.first-is) (blame-more kept c.requires.coherent class bs ranked c.requires.ranked i r w.in-Some.cause c.loop-next.first w.earlier.result here w.in-Some.ensures.blamed w.in-Some.ensures.caused w.earlier.ensures.one c.loop-next.invariant.blame);
        reached = subst Q (sym w.first-is) (reached-more kept c.requires.coherent class bs ranked c.requires.ranked i r c.loop-next.first w.earlier.result here w.earlier.ensures.own w.earlier.ensures.other c.loop-next.invariant.reached);
      }
    ]

pub returns-clause-first : goal.returns-clause-first
returns-clause-first c =
    reached-all c.args.change.classes.now c.requires.coherent c.args.change.class.0 (numbers c.args.change.bases.now) c.args.ranked.now c.requires.ranked c.loop-next.next-index c.loop-next.first c.loop-next-test.false c.loop-next.invariant.reached
