use Rattle.order_check.proofs.Lemmas.{List, Option, sym, ap, subst, ◌∙◌, arith, Vec, orders, IsClosedTo, unknown, closed-none, closed-more}
use Rattle.std.proofs.Common.{◌+◌, ◌<◌}
use Rattle.order_check.proofs.orders.try_all.Goals as goal
use Rattle.order_check.proofs.orders.try_all.Goals.{then-branch, else-branch}

pub loop-place-init : goal.loop-place-init
loop-place-init c = record {
  count = c.requires.count;
  known = c.requires.known;
  fewer = omega arith;
  found = λ e. cc;
  closed = λ _. closed-none c.args.entries.now (orders c.args.known.now.items);
}

pub loop-place-preserved : goal.loop-place-preserved
loop-place-preserved c =
    let h = c.args.entries.now in
    let invariant = c.loop-place.invariant in
    let call = c.in_ok-try_place.ensures in
    elim c.if-branch.branch [
      | then-branch w ↦
          let less : unknown (orders c.try_place.new.known.items) < unknown (orders c.loop-place.known.items) = call.found w.if-branch.true in
          record {
            count = call.count;
            known = call.known;
            fewer = omega (arith, less, invariant.fewer);
            found = λ _. omega (arith, less, invariant.fewer);
            closed = λ e. absurd (let q = w.found-is in cc);
          }
      | else-branch w ↦
          let same = call.same w.if-branch.false in
          let number = ap (λ vs. unknown (orders vs)) same in
          record {
            count = call.count;
            known = call.known;
            fewer = omega (arith, number, invariant.fewer);
            found = λ e. let less = invariant.found (sym w.found-is ∙ e) in omega (arith, number, less);
            closed = λ e.
                let P : List (Option (Vec _)) → Type 0 = λ vs. IsClosedTo h (orders vs) (c.loop-place.place + 1) in
                subst P (sym same) (closed-more h (orders c.loop-place.known.items) c.loop-place.place (invariant.closed (sym w.found-is ∙ e)) (call.closed w.if-branch.false));
          }
    ]
