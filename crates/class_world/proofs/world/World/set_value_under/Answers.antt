use Rattle.class_world.proofs.Lemmas.{[], sym, ◌∙◌, on_ok_weaker, held_dict, plain, CanBeKeys, put-entry, push-differs, push-entry, stored-place, under-set}
use Rattle.std.proofs.Common.{◌∷◌}
use Rattle.class_world.proofs.world.World.set_value_under.Goals as goal

pub push_entry-requires-clause-differs : goal.push_entry-requires-clause-differs
push_entry-requires-clause-differs c =
    let m = c.intern_key.new.self in
    let d = held_dict m.nodes c.args.dict in
    let k = c.args.key in
    let v = c.args.value in
    let none = sym c.in-None.is ∙ c.place_of.ensures.first ∙ stored-place m d c.in_ok-stored.stored k v c.place_of.ensures.distinct c.place_of.ensures.holds c.in_ok-stored.ensures.read in
    push-differs m d.items k v none c.place_of.ensures.holds.1 (c.in_ok-stored.ensures.grows.still (CanBeKeys (k ∷ [])) c.requires.can)

pub returns-in-None-clause-set : goal.returns-in-None-clause-set
returns-in-None-clause-set c =
    let m = c.intern_key.new.self in
    let d = held_dict m.nodes c.args.dict in
    let k = c.args.key in
    let v = c.args.value in
    let none = sym c.in-None.is ∙ c.place_of.ensures.first ∙ stored-place m d c.in_ok-stored.stored k v c.place_of.ensures.distinct c.place_of.ensures.holds c.in_ok-stored.ensures.read in
    on_ok_weaker c.push_entry.result (λ pushed t. pushed t ∙ under-set t m c.args.dict k v _ (plain t c.args.self.now) (c.in_ok-stored.ensures.same t) (push-entry m d.items k v none t)) c.push_entry.ensures.pushed

pub returns-in-Some-clause-set : goal.returns-in-Some-clause-set
returns-in-Some-clause-set c = λ t.
    let m = c.intern_key.new.self in
    let d = held_dict m.nodes c.args.dict in
    let k = c.args.key in
    let v = c.args.value in
    let first = sym c.in-Some.is ∙ c.place_of.ensures.first ∙ stored-place m d c.in_ok-stored.stored k v c.place_of.ensures.distinct c.place_of.ensures.holds c.in_ok-stored.ensures.read in
    c.put_value.ensures.put t ∙ under-set t m c.args.dict k v _ (plain t c.args.self.now) (c.in_ok-stored.ensures.same t) (put-entry m d.items k v c.in-Some.place first t)
