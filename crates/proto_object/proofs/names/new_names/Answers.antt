use Rattle.proto_object.proofs.Lemmas.{[], ap, sym, subst, rules, ◌∙◌, place_of, the_list, AList, bindings, datum, plain, AreNodes, Holds, grows-on, sized_made, keys_of, nodes-append, keyed, ends-then, names_made}
use Rattle.std.proofs.Common.{◌≡◌, ◌++◌}
use Rattle.py_node.specs.declared.payload.Payload.TheVariants as payload
use Rattle.proto_object.proofs.names.new_names.Goals as goal

pub new_sized-requires-clause-holds : goal.new_sized-requires-clause-holds
new_sized-requires-clause-holds c =
    let mid = c.key_all.new.world in
    let others = c.args.others.now in
    let first : c.deref.result.now ≡ c.in_ok-entries.entries.items = search rules in
    let second : c.deref-2.result.now ≡ c.in_ok-keys.keys.items = search rules in
    let names = c.in_ok-names.ensures ∙ ap (λ rs. rs ++ others) (second ∙ c.in_ok-keys.ensures ∙ ap keys_of first) in
    (subst (λ rs. Holds mid (AreNodes rs)) (sym names) (nodes-append mid (keys_of c.in_ok-entries.entries.items) others c.in_ok-entries.ensures.holds.0 (c.key_all.ensures.grows.still (AreNodes others) c.requires.others)), tt)

pub returns-clause-ends : goal.returns-clause-ends
unfolding place_of
returns-clause-ends c =
    let w = c.args.world.now in
    let mid = c.key_all.new.world in
    let others = c.args.others.now in
    let list = c.in_ok-names.names in
    let first : c.deref.result.now ≡ c.in_ok-entries.entries.items = search rules in
    let second : c.deref-2.result.now ≡ c.in_ok-keys.keys.items = search rules in
    let names = c.in_ok-names.ensures ∙ ap (λ rs. rs ++ others) (second ∙ c.in_ok-keys.ensures ∙ ap keys_of first) in
    ends-then (λ t u. names_made others (keyed u [] (bindings t c.args.attrs.now))) (λ t u. sized_made u the_list (datum t (payload.List list))) w mid c.new_sized.new.world c.new_sized.result (λ t r. (
      c.key_all.ensures.reads t r,
      ap (names_made others) (c.in_ok-entries.ensures.keyed t r) ∙ ap (λ rs. sized_made (plain t mid) the_list (AList rs)) (sym names),
    )) c.new_sized.ensures.ends

pub returns-clause-safe : goal.returns-clause-safe
returns-clause-safe c =
    let h = c.new_sized.ensures.safe in
    (grows-on c.args.world.now c.key_all.new.world c.new_sized.new.world c.key_all.ensures.grows h.0, h.1)
