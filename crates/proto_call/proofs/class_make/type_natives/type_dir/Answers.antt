use Rattle.proto_call.proofs.Lemmas.{err_from_is_err_and, [], map, ap, sym, subst, rules, ◌∙◌, place_of, PyObjectRef, all_attributes, the_list, AList, is_text, bindings, datum, plain, AreNodes, Holds, grows-on, sized_made, type_dir, keys_made, keyed, or_no_attributes, ends-then}
use Rattle.std.proofs.Common.{◌≡◌}
use Rattle.py_node.specs.declared.payload.Payload.TheVariants as payload
use Rattle.proto_call.proofs.class_make.type_natives.type_dir.Goals as goal

pub new_sized-requires-clause-holds : goal.new_sized-requires-clause-holds
new_sized-requires-clause-holds c =
    let same : c.deref.result.now ≡ c.in_ok-entries.entries.items = search rules in
    let keys = c.in_ok-keys.ensures ∙ ap (map (λ (e : PyObjectRef × PyObjectRef). e.0)) same in
    (subst (λ rs. Holds c.key_all.new.world (AreNodes rs)) (sym keys) c.in_ok-entries.ensures.holds.0, tt)

pub returns-in_err-class-clause-ends : goal.returns-in_err-class-clause-ends
returns-in_err-class-clause-ends c =
    let p = err_from_is_err_and c.from_residual.result c.from_residual.ensures.1 in
    rw (p.1, p.2) (λ t r.
    let u = plain t c.args.world.now in
    (r, c.in_err-class.ensures.refused t (λ k. keys_made (keyed u [] (or_no_attributes (all_attributes is_text u.classes k))))))

pub returns-clause-ends : goal.returns-clause-ends
unfolding place_of
returns-clause-ends c =
    let w = c.args.world.now in
    let mid = c.key_all.new.world in
    let list = c.in_ok-keys.keys in
    let same : c.deref.result.now ≡ c.in_ok-entries.entries.items = search rules in
    let keys = c.in_ok-keys.ensures ∙ ap (map (λ (e : PyObjectRef × PyObjectRef). e.0)) same in
    ends-then (λ t u. type_dir u c.args.call.args.now (bindings t c.args.call.kw.now)) (λ t u. sized_made u the_list (datum t (payload.List list))) w mid c.new_sized.new.world c.new_sized.result (λ t r.
    let u = plain t w in
    let first = c.key_all.ensures.reads t r in (
      first,
      c.in_ok-class.ensures.given t (λ k. keys_made (keyed u [] (or_no_attributes (all_attributes is_text u.classes k))))
          ∙ ap (λ o. keys_made (keyed u [] (or_no_attributes o))) (c.in_ok-attrs.ensures.attrs t first)
          ∙ ap keys_made (c.in_ok-entries.ensures.keyed t r)
          ∙ ap (λ rs. sized_made (plain t mid) the_list (AList rs)) (sym keys),
    )) c.new_sized.ensures.ends

pub returns-clause-safe : goal.returns-clause-safe
returns-clause-safe c =
    let h = c.new_sized.ensures.safe in
    (grows-on c.args.world.now c.key_all.new.world c.new_sized.new.world c.key_all.ensures.grows h.0, h.1)
