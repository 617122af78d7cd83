use Rattle.order_check.proofs.Lemmas.{ℕ, List, Option, sym, ap, subst, ◌∙◌, arith, unknown, IsRanking, IsStuckTo, stuck-none, stuck-more}
use Rattle.std.proofs.Common.{◌+◌}
use Rattle.order_check.proofs.ranks.rank_more.Goals as goal
use Rattle.order_check.proofs.ranks.rank_more.Goals.{then-rank_place, else-rank_place}

pub loop-place-init : goal.loop-place-init
loop-place-init c = record {
  count = c.requires.count;
  ranking = c.requires.ranking;
  room = c.requires.room;
  next = omega arith;
  stuck = λ _. stuck-none c.args.entries.now c.args.ranks.now.items;
}

pub loop-place-preserved : goal.loop-place-preserved
loop-place-preserved c =
    let h = c.args.entries.now in
    let cur = c.loop-place.ranks.items in
    let now = c.rank_place.new.ranks.items in
    let invariant = c.loop-place.invariant in
    let call = c.rank_place.ensures in
    elim c.if-rank_place.branch [
      | then-rank_place w ↦
          let less = call.fewer w.if-rank_place.true in
          let P : ℕ → Type 0 = λ n. IsRanking h now n in
          record {
            count = call.count;
            ranking = subst P (sym w.after-is) (call.ranking w.if-rank_place.true);
            room = omega (arith, less, w.after-is, invariant.room);
            next = omega (arith, w.after-is, invariant.next);
            stuck = λ e. absurd (omega (arith, e, w.after-is, invariant.next));
          }
      | else-rank_place w ↦
          let same = call.same w.if-rank_place.false in
          let number = ap unknown same in
          let P : ℕ → Type 0 = λ n. IsRanking h now n in
          let Q : List (Option ℕ) → Type 0 = λ rs. IsRanking h rs c.loop-place.after in
          let R : List (Option ℕ) → Type 0 = λ rs. IsStuckTo h rs (c.loop-place.place + 1) in
          record {
            count = call.count;
            ranking = subst P (sym w.after-is) (subst Q (sym same) invariant.ranking);
            room = omega (arith, number, w.after-is, invariant.room);
            next = omega (arith, w.after-is, invariant.next);
            stuck = λ e. subst R (sym same) (stuck-more h cur c.loop-place.place (invariant.stuck (sym w.after-is ∙ e)) (call.stuck w.if-rank_place.false));
          }
    ]
