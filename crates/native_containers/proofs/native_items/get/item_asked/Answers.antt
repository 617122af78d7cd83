use Rattle.native_containers.proofs.Lemmas.{◌∙◌, [], ap, sym, refl, is_some, Index, Protocol, DoIndex, ToProtocol, plain, Getting, get_item, item_asked, part, getter_of, made_as, stood_told, get-asked, getting-alike, asks-does, ends-does, sorted_ends}
use Rattle.std.proofs.Common.{◌∷◌}
use Rattle.native_containers.proofs.native_items.get.item_asked.Goals as goal

pub returns-in_ok-ended-in-Some-clause-goes : goal.returns-in_ok-ended-in-Some-clause-goes
returns-in_ok-ended-in-Some-clause-goes c =
    let a = c.args in
    let s = a.sequence in
    let rs = c.in_ok-part-in-Some.part in
    ends-does (getter_of s) (a.object ∷ a.key ∷ []) (λ t u. get_item u (made_as s u) a.object a.key []) (λ t u. made_as s u rs.items) a.world.now c.made.new.world c.in_ok-ended-in-Some.ended (λ t.
    let u = plain t a.world.now in
    ap (λ x. item_asked u (made_as s u) x a.object a.key) (c.in-Some.ensures.reads t)
    ∙ ap (λ l. made_as s u (part u c.in-Some.slice l)) (c.items.ensures.same t)
    ∙ ap (made_as s u) (c.in_ok-part-in-Some.ensures.part t)) (sorted_ends c.made.result c.in_ok-ended-in-Some.ended _ c.in_ok-ended-in-Some.ensures c.made.ensures.ends)

pub returns-in_ok-stood-in-None-clause-goes : goal.returns-in_ok-stood-in-None-clause-goes
returns-in_ok-stood-in-None-clause-goes c =
    let a = c.args in
    let s = a.sequence in
    let kept = c.in_ok-stood-in-None.stood in
    asks-does (getter_of s) (a.object ∷ a.key ∷ []) (λ t u. get_item u (made_as s u) a.object a.key []) a.world.now (stood_told kept) (Protocol (Index a.key)) (ToProtocol (DoIndex a.key)) (Getting a.object kept) (λ t.
    let u = plain t a.world.now in
    get-asked u a.object a.key a.key c.is_some.result kept (c.in_ok-stood-in-None.ensures.told t) (made_as s u) (c.in-None.ensures.reads t) (ap is_some (c.number.ensures t) ∙ sym c.is_some.ensures))
    (λ t q. refl) (getting-alike s a.object a.key kept)
