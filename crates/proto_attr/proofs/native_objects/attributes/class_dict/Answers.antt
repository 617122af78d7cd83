use Rattle.proto_attr.proofs.Lemmas.{[], ap, sym, subst, ◌∙◌, place_of, class_at as class_numbered, entries_from, the_dict, ADict, bindings, datum, plain, AllHold, of_binding, of_each, grows-on, entries-themselves, keys-can, sized_made, class_dict, dict_made, keyed, ends-then, attrs-there}
use Rattle.py_node.specs.declared.payload.Payload.TheVariants as payload
use Rattle.proto_attr.proofs.native_objects.attributes.class_dict.Goals as goal

pub key_all-requires : goal.key_all-requires
key_all-requires c =
    subst (λ a. AllHold c.args.world.now (of_each of_binding a)) (sym c.in_ok-attrs.ensures) c.attributes.ensures.holds

pub entries_from-requires : goal.entries_from-requires
entries_from-requires c = rw c.deref.ensures.value (keys-can c.key_all.new.world c.in_ok-entries.entries.items c.in_ok-entries.ensures.holds)

pub returns-clause-ends : goal.returns-clause-ends
unfolding place_of
returns-clause-ends c =
    let w = c.args.world.now in
    let mid = c.key_all.new.world in
    let after = c.entries_from.new.self in
    let k = c.args.class.0 in
    let entries = c.in_ok-entries.entries in
    let dict = c.in_ok-dict.dict in
    ends-then (λ t u. class_dict u k) (λ t u. sized_made u the_dict (datum t (payload.Dict dict))) w after c.new_sized.new.world c.new_sized.result (λ t r.
    let u = plain t w in
    let before = c.in_ok-dict.ensures.reads t r in
    let attrs = attrs-there (class_numbered u.classes k) _ (c.attributes.ensures.attrs t) ∙ ap (bindings t) (sym c.in_ok-attrs.ensures) in
    let items = c.in_ok-dict.ensures.entries t ∙ ap (entries_from (plain t mid)) c.deref.ensures.value ∙ entries-themselves t mid entries.items c.in_ok-entries.ensures.holds in (
      c.key_all.ensures.reads t before,
      ap (λ bs. dict_made (keyed u [] bs)) attrs
          ∙ ap dict_made (c.in_ok-entries.ensures.keyed t before)
          ∙ (λ i. sized_made (sym (c.in_ok-dict.ensures.same t) i) the_dict (ADict (sym items i))),
    )) c.new_sized.ensures.ends

pub returns-clause-safe : goal.returns-clause-safe
returns-clause-safe c =
    let h = c.new_sized.ensures.safe in
    let more = grows-on c.args.world.now c.key_all.new.world c.entries_from.new.self c.key_all.ensures.grows c.in_ok-dict.ensures.grows in
    (grows-on c.args.world.now c.entries_from.new.self c.new_sized.new.world more h.0, h.1)
