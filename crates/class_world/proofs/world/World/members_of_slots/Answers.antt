use Rattle.class_world.proofs.Lemmas.{map, sym, ap, subst, ◌∙◌, slot_members, table_keys, the_view, spelled, AreNames, Holds, members-named, members-seen}
use Rattle.class_world.proofs.world.World.members_of_slots.Goals as goal

pub returns-clause-members : goal.returns-clause-members
returns-clause-members c = λ t r.
    ap (map (spelled t)) (c.slot_members.ensures ∙ ap (slot_members table_keys) c.in_ok-copy.ensures)
    ∙ members-seen (the_view c.self.inside) c.args.self.now c.self.view_is c.self.invariant t r c.args.slots.now

pub returns-clause-holds : goal.returns-clause-holds
returns-clause-holds c =
    subst (λ xs. Holds c.args.self.now (AreNames xs)) (sym (c.slot_members.ensures ∙ ap (slot_members table_keys) c.in_ok-copy.ensures)) (members-named c.args.self.now c.args.slots.now c.requires)
