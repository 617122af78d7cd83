use Rattle.native_containers.proofs.Lemmas.{sym, subst, AreNodes, Holds, ok-map, put_between, put-nodes}
use Rattle.std.proofs.Common.{◌≡◌}
use Rattle.native_containers.proofs.native_items.places.put_part.Goals as goal

pub returns-clause-holds : goal.returns-clause-holds
returns-clause-holds c =
    let w = c.args.world.now in
    let xs = c.args.items.now in
    let ys = c.args.others.now in
    let b = c.bounds-start.result in
    ok-map (λ rs. rs.items ≡ put_between b.0 b.1 xs ys) (λ rs. Holds w (AreNodes rs.items)) c.put_between.result
    (λ rs e. subst (λ l. Holds w (AreNodes l)) (sym e) (put-nodes w xs c.requires.items b.0 b.1 ys c.requires.others)) c.put_between.ensures
