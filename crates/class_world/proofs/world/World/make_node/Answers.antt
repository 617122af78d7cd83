use Rattle.class_world.proofs.Lemmas.{sym, ap, subst, is_some, has_dict, IsEmptyDict, Held, the_view, Holds, IsClass, IsOf, home_of, of_node, of_option, of_payload, opened, opened-one, grows-seen, added-sound, added-grows, added-read, added-number, added-there, added-holding, added-last}
use Rattle.std.proofs.Common.{◌≡◌, IfSome}
use Rattle.class_world.proofs.world.World.make_node.Goals as goal

pub invariant_of-self : goal.invariant_of-self
invariant_of-self c =
    let w = the_view c.self.inside in
    let now = c.args.self.now in
    let e = c.add_object.ensures in
    let dict = opened w now (of_option of_node c.in_ok-dict.dict) c.self.view_is c.in_ok-dict.ensures.holds in
    let class = opened-one w now (IsClass c.args.class.0) c.self.view_is c.requires.class in
    let of = opened-one w now (IsOf c.args.class.0 (home_of c.args.payload)) c.self.view_is c.requires.of in
    let held = opened w now (of_payload c.args.payload) c.self.view_is c.requires.payload in
    let given = subst (λ (u : Held). has_dict u.classes c.args.class.0 ≡ is_some c.in_ok-dict.dict) (sym c.self.view_is) c.in_ok-dict.ensures.given in
    let none = subst (λ (u : Held). IfSome c.in_ok-dict.dict (IsEmptyDict u.classes)) (sym c.self.view_is) c.in_ok-dict.ensures.empty in
    added-sound w c.args.class c.in_ok-members.members c.args.payload c.in_ok-dict.dict c.add_object.new.nodes.items c.add_object.result c.in_ok-members.ensures given e.added e.err none dict class of c.requires.other held c.self.invariant

pub returns-clause-made : goal.returns-clause-made
returns-clause-made c =
    let e = c.add_object.ensures in
    let none = subst (λ (u : Held). IfSome c.in_ok-dict.dict (IsEmptyDict u.classes)) (sym c.self.view_is) c.in_ok-dict.ensures.empty in
    added-read (the_view c.self.inside) c.args.class c.in_ok-members.members c.args.payload c.in_ok-dict.dict c.add_object.new.nodes.items c.args.self.now c.add_object.result c.self.view_is c.in_ok-members.ensures e.added none c.in_ok-dict.ensures.gives

pub returns-clause-number : goal.returns-clause-number
returns-clause-number c =
    added-number (the_view c.self.inside) c.args.class c.in_ok-members.members c.args.payload c.in_ok-dict.dict c.add_object.new.nodes.items c.args.self.now c.add_object.result c.self.view_is c.add_object.ensures.number c.in_ok-dict.ensures.gives

pub returns-clause-grows : goal.returns-clause-grows
returns-clause-grows c =
    let e = c.add_object.ensures in
    grows-seen (the_view c.self.inside) _ _ c.self.view_is (added-grows (the_view c.self.inside) c.args.class c.in_ok-members.members c.args.payload c.in_ok-dict.dict c.add_object.new.nodes.items c.add_object.result e.added e.err)

pub returns-clause-node : goal.returns-clause-node
returns-clause-node c =
    added-there (the_view c.self.inside) c.args.class c.in_ok-members.members c.args.payload c.in_ok-dict.dict c.add_object.new.nodes.items c.add_object.result c.add_object.ensures.added c.add_object.ensures.number

pub returns-clause-holding : goal.returns-clause-holding
returns-clause-holding c =
    added-holding (the_view c.self.inside) c.args.class c.in_ok-members.members c.args.payload c.in_ok-dict.dict c.add_object.new.nodes.items c.add_object.result c.add_object.ensures.added c.add_object.ensures.number

pub returns-clause-classes : goal.returns-clause-classes
returns-clause-classes c = ap (λ (u : Held). u.classes) c.self.view_is

pub returns-clause-last : goal.returns-clause-last
returns-clause-last c =
    added-last (the_view c.self.inside) c.args.class c.in_ok-members.members c.args.payload c.in_ok-dict.dict c.add_object.new.nodes.items c.add_object.result c.add_object.ensures.added c.add_object.ensures.number

pub empty_places-requires : goal.empty_places-requires
unfolding Holds
empty_places-requires c = opened-one (the_view c.self.inside) c.args.self.now (IsClass c.args.class.0) c.self.view_is c.requires.class
