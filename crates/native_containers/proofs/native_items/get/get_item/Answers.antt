use Rattle.native_containers.proofs.Lemmas.{◌∙◌, [], bindings, plain, get_item, getter_of, made_as, getter-is, refused-enters, two-enters}
use Rattle.native_containers.proofs.native_items.get.get_item.Goals as goal

pub returns-in-Err-clause-goes : goal.returns-in-Err-clause-goes
returns-in-Err-clause-goes c =
    let a = c.args in
    refused-enters (getter_of a.sequence) a.call.args.now a.call.kw.now a.world.now c.in-Err.raised (λ t.
    getter-is a.sequence c.kind_of.result c.kind_of.ensures (plain t a.world.now) a.call.args.now (bindings t a.call.kw.now) ∙ c.in-Err.ensures.refused t (λ o k. get_item (plain t a.world.now) (made_as a.sequence (plain t a.world.now)) o k []))

pub returns-in-Ok-clause-goes : goal.returns-in-Ok-clause-goes
returns-in-Ok-clause-goes c =
    let a = c.args in
    let p = c.in-Ok in
    two-enters (getter_of a.sequence) c.kind_of.result (λ u o k. get_item u (made_as a.sequence u) o k) (getter-is a.sequence c.kind_of.result c.kind_of.ensures) a.call.args.now a.call.kw.now p.object p.key a.world.now c.item_asked.new.world c.item_asked.result p.ensures.given c.item_asked.ensures.goes
