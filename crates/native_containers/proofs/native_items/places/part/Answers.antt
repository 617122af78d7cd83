use Rattle.native_containers.proofs.Lemmas.{sym, subst, slice_range, AreNodes, Holds, ok-map, range-nodes}
use Rattle.std.proofs.Common.{◌≡◌}
use Rattle.native_containers.proofs.native_items.places.part.Goals as goal

pub returns-clause-holds : goal.returns-clause-holds
returns-clause-holds c =
    let w = c.args.world.now in
    let xs = c.args.items.now in
    let b = c.bounds-start.result in
    ok-map (λ rs. rs.items ≡ slice_range xs b.0 b.1) (λ rs. Holds w (AreNodes rs.items)) c.between.result
    (λ rs e. subst (λ l. Holds w (AreNodes l)) (sym e) (range-nodes w xs c.requires.items b.0 b.1)) c.between.ensures
