use Rattle.class_world.proofs.Lemmas.{[], sym, ap, subst, ◌∙◌, PlainDict, with_entry, of_keyed, AllHold, CanBeKeys, IsNode, all-grow, put-hold, pushed-hold, put-entry, push-differs, push-entry, stored-place}
use Rattle.std.proofs.Common.{◌∷◌}
use Rattle.class_world.proofs.world.World.with_entry.Goals as goal

pub returns-in-Some-clause-entries : goal.returns-in-Some-clause-entries
returns-in-Some-clause-entries c = λ t.
    let m = c.intern_key.new.self in
    let d = c.args.dict in
    let k = c.args.key in
    let v = c.args.value in
    let here = all-grow c.args.self.now m c.in_ok-stored.ensures.grows (of_keyed d) c.requires.dict in
    let first = sym c.in-Some.is ∙ c.place_of.ensures.first ∙ stored-place m d c.in_ok-stored.stored k v c.distinct.ensures here c.in_ok-stored.ensures.read in
    ap (λ (d : PlainDict). d.items) c.put.ensures
    ∙ put-entry m d.items k v c.in-Some.place first t
    ∙ ap (λ u. with_entry u d.items (k, v)) (c.in_ok-stored.ensures.same t)

pub returns-in-Some-clause-holds : goal.returns-in-Some-clause-holds
returns-in-Some-clause-holds c =
    let m = c.intern_key.new.self in
    let d = c.args.dict in
    let grows = c.in_ok-stored.ensures.grows in
    let here = all-grow c.args.self.now m grows (of_keyed d) c.requires.dict in
    subst (λ d. AllHold m (of_keyed d)) (sym c.put.ensures) (put-hold m d c.in-Some.place c.args.value here (grows.still (IsNode c.args.value) c.requires.value))

pub returns-in_ok-push-in-None-clause-entries : goal.returns-in_ok-push-in-None-clause-entries
returns-in_ok-push-in-None-clause-entries c = λ t.
    let m = c.intern_key.new.self in
    let d = c.args.dict in
    let k = c.args.key in
    let v = c.args.value in
    let here = all-grow c.args.self.now m c.in_ok-stored.ensures.grows (of_keyed d) c.requires.dict in
    let none = sym c.in-None.is ∙ c.place_of.ensures.first ∙ stored-place m d c.in_ok-stored.stored k v c.distinct.ensures here c.in_ok-stored.ensures.read in
    ap (λ (d : PlainDict). d.items) c.in_ok-push-in-None.ensures.ok
    ∙ push-entry m d.items k v none t
    ∙ ap (λ u. with_entry u d.items (k, v)) (c.in_ok-stored.ensures.same t)

pub returns-in_ok-push-in-None-clause-holds : goal.returns-in_ok-push-in-None-clause-holds
returns-in_ok-push-in-None-clause-holds c =
    let m = c.intern_key.new.self in
    let d = c.args.dict in
    let k = c.args.key in
    let v = c.args.value in
    let grows = c.in_ok-stored.ensures.grows in
    let here = all-grow c.args.self.now m grows (of_keyed d) c.requires.dict in
    let none = sym c.in-None.is ∙ c.place_of.ensures.first ∙ stored-place m d c.in_ok-stored.stored k v c.distinct.ensures here c.in_ok-stored.ensures.read in
    let differs = push-differs m d.items k v none here.1 (grows.still (CanBeKeys (k ∷ [])) c.requires.key) in
    subst (λ d. AllHold m (of_keyed d)) (sym c.in_ok-push-in-None.ensures.ok) (pushed-hold m d c.in_ok-stored.stored k v here c.in_ok-stored.ensures.read (grows.still (IsNode k) c.requires.node) (grows.still (IsNode v) c.requires.value) differs)
