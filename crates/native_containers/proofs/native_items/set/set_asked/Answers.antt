use Rattle.native_containers.proofs.Lemmas.{◌∙◌, [], ap, sym, refl, is_some, SetItem, OfList, Collect, Index, Protocol, DoCollect, DoIndex, ToProtocol, plain, Setting, set_item, stood_told, set-asked, set-part-asked, setting-alike, asks-does}
use Rattle.std.proofs.Common.{◌∷◌}
use Rattle.native_containers.proofs.native_items.set.set_asked.Goals as goal

pub returns-in_ok-stood-in-Some-clause-goes : goal.returns-in_ok-stood-in-Some-clause-goes
returns-in_ok-stood-in-Some-clause-goes c =
    let a = c.args in
    let kept = c.in_ok-stood-in-Some.stood in
    asks-does (OfList SetItem) (a.list ∷ a.key ∷ a.value ∷ []) (λ t u. set_item u a.list a.key a.value []) a.world.now (stood_told kept) (Protocol (Collect a.value)) (ToProtocol (DoCollect a.value)) (Setting a.list a.key a.value kept) (λ t.
    let u = plain t a.world.now in
    set-part-asked u a.list a.key a.value c.is_plain.result kept (c.in_ok-stood-in-Some.ensures.told t) c.in-Some.field-0 (c.in-Some.ensures.reads t) (c.is_plain.ensures t))
    (λ t q. refl) (setting-alike a.list a.key a.value kept)

pub returns-in_ok-stood-in-None-clause-goes : goal.returns-in_ok-stood-in-None-clause-goes
returns-in_ok-stood-in-None-clause-goes c =
    let a = c.args in
    let kept = c.in_ok-stood-in-None.stood in
    asks-does (OfList SetItem) (a.list ∷ a.key ∷ a.value ∷ []) (λ t u. set_item u a.list a.key a.value []) a.world.now (stood_told kept) (Protocol (Index a.key)) (ToProtocol (DoIndex a.key)) (Setting a.list a.key a.value kept) (λ t.
    let u = plain t a.world.now in
    set-asked u a.list a.key a.value c.is_some.result kept (c.in_ok-stood-in-None.ensures.told t) (c.in-None.ensures.reads t) (ap is_some (c.number.ensures t) ∙ sym c.is_some.ensures))
    (λ t q. refl) (setting-alike a.list a.key a.value kept)
