use Rattle.order_check.proofs.Lemmas.{All, ℕ, sym, subst, All-push}
use Rattle.std.proofs.Common.{◌<◌}
use Rattle.order_check.proofs.levels.all_places.Goals as goal

pub loop-place-preserved : goal.loop-place-preserved
loop-place-preserved c =
    let P : ℕ → Type 0 = λ place. place < c.args.count in
    subst (All P) (sym c.in_ok-push.ensures.items) (All-push P c.loop-place.places.items c.loop-place.place c.loop-place.invariant c.loop-place-test.true)
