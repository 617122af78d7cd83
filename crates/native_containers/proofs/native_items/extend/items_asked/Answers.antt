use Rattle.native_containers.proofs.Lemmas.{[], refl, InplaceAdd, OfList, Collect, Protocol, DoCollect, ToProtocol, plain, Extending, extend, stood_told, extend-asked, extending-alike, asks-does}
use Rattle.std.proofs.Common.{◌∷◌}
use Rattle.native_containers.proofs.native_items.extend.items_asked.Goals as goal

pub returns-clause-goes : goal.returns-clause-goes
returns-clause-goes c =
    let a = c.args in
    let kept = c.in_ok-stood.stood in
    asks-does (OfList InplaceAdd) (a.list ∷ a.others ∷ []) (λ t u. extend u a.list a.others []) a.world.now (stood_told kept) (Protocol (Collect a.others)) (ToProtocol (DoCollect a.others)) (Extending a.list kept) (λ t.
    let u = plain t a.world.now in
    extend-asked u a.list a.others a.others c.is_plain.result kept (c.in_ok-stood.ensures.told t) (c.is_plain.ensures t))
    (λ t q. refl) (extending-alike a.list a.others kept)
