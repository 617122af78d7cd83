use Rattle.native_containers.proofs.Lemmas.{◌∙◌, [], ap, sym, refl, subst, is_some, DelItem, OfList, Index, Protocol, DoIndex, ToProtocol, plain, AreNodes, Holds, no-nodes, Deleting, list_changed, items_at, del_asked, del_item, put_part, stood_told, del-asked, deleting-alike, asks-does, ends-does, sorted_ends}
use Rattle.std.proofs.Common.{◌∷◌}
use Rattle.native_containers.proofs.native_items.delete.delete_asked.Goals as goal

pub returns-in_ok-ended-in-Some-clause-goes : goal.returns-in_ok-ended-in-Some-clause-goes
returns-in_ok-ended-in-Some-clause-goes c =
    let a = c.args in
    let s = c.in-Some.slice in
    ends-does (OfList DelItem) (a.list ∷ a.key ∷ []) (λ t u. del_item u a.list a.key []) (λ t u. list_changed u a.list (put_part u s (items_at u a.list) c.new-none.result.items)) a.world.now c.replace_part.new.world c.in_ok-ended-in-Some.ended (λ t.
    let u = plain t a.world.now in
    ap (λ x. del_asked u x a.list a.key) (c.in-Some.ensures.reads t)
    ∙ ap (λ ys. list_changed u a.list (put_part u s (items_at u a.list) ys)) (sym c.new-none.ensures.items)) (sorted_ends c.replace_part.result c.in_ok-ended-in-Some.ended _ c.in_ok-ended-in-Some.ensures c.replace_part.ensures.ends)

pub returns-in_ok-stood-in-None-clause-goes : goal.returns-in_ok-stood-in-None-clause-goes
returns-in_ok-stood-in-None-clause-goes c =
    let a = c.args in
    let kept = c.in_ok-stood-in-None.stood in
    asks-does (OfList DelItem) (a.list ∷ a.key ∷ []) (λ t u. del_item u a.list a.key []) a.world.now (stood_told kept) (Protocol (Index a.key)) (ToProtocol (DoIndex a.key)) (Deleting a.list kept) (λ t.
    let u = plain t a.world.now in
    del-asked u a.list a.key a.key c.is_some.result kept (c.in_ok-stood-in-None.ensures.told t) (c.in-None.ensures.reads t) (ap is_some (c.number.ensures t) ∙ sym c.is_some.ensures))
    (λ t q. refl) (deleting-alike a.list a.key kept)

pub replace_part-requires-clause-others : goal.replace_part-requires-clause-others
replace_part-requires-clause-others c =
    let w = c.args.world.now in
    subst (λ rs. Holds w (AreNodes rs)) (sym c.new-none.ensures.items) (no-nodes w)
