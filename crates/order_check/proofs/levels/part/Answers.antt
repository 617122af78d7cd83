use Rattle.order_check.proofs.Lemmas.{All, length, get_or, ℕ, sym, ap, subst, ◌∙◌, arith, Vec, length_push, All-push}
use Rattle.std.proofs.Common.{◌<◌}
use Rattle.order_check.proofs.levels.part.Goals as goal
use Rattle.order_check.proofs.levels.part.Goals.{then-are_known+in_ok-push, else-are_known+in_ok-push-2}

pub loop-place-preserved : goal.loop-place-preserved
loop-place-preserved c =
    let l = c.loop-place in
    let P : ℕ → Type 0 = λ place. place < length c.args.entries.now in
    let Q : Vec ℕ → Type 0 = λ v. All P v.items in
    let place = get_or c.args.places.now l.place-index 0 in
    let inside : P place = c.requires.inside l.place-index 0 c.loop-place-test.true in
    elim c.if-are_known.branch [
      | then-are_known+in_ok-push w ↦
          let grown = w.in_ok-push.ensures.items in
          let more = ap (λ (v : Vec ℕ). length v.items) w.level-is ∙ ap length grown ∙ length_push l.level.items place in
          let same = ap (λ (v : Vec ℕ). length v.items) w.above-is in
          record {
            level = subst Q (sym w.level-is) (subst (All P) (sym grown) (All-push P l.level.items place l.invariant.level inside));
            above = subst Q (sym w.above-is) l.invariant.above;
            all = omega (arith, more, same, l.invariant.all);
          }
      | else-are_known+in_ok-push-2 w ↦
          let grown = w.in_ok-push-2.ensures.items in
          let more = ap (λ (v : Vec ℕ). length v.items) w.above-is ∙ ap length grown ∙ length_push l.above.items place in
          let same = ap (λ (v : Vec ℕ). length v.items) w.level-is in
          record {
            level = subst Q (sym w.level-is) l.invariant.level;
            above = subst Q (sym w.above-is) (subst (All P) (sym grown) (All-push P l.above.items place l.invariant.above inside));
            all = omega (arith, more, same, l.invariant.all);
          }
    ]
