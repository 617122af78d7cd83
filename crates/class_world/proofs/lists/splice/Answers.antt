use Rattle.class_world.proofs.Lemmas.{sym, ap, ◌∙◌, map-id, splice, items_from_drains, YieldsList-from_vec}
use Rattle.class_world.proofs.lists.splice.Goals as goal

pub returns-clause-ok : goal.returns-clause-ok
returns-clause-ok c =
    let e = c.in_ok-splice.ensures.items in
    let road = YieldsList-from_vec c.args.others.items e.2.0 cc in
    let same = items_from_drains e.1 (e.3.1.0, e.3.1.1, λ _. (e.3.0, e.3.1.2)) road in
    e.4 ∙ ap (splice c.args.items.now.items c.args.start c.args.stop) (sym (map-id e.1) ∙ same)
