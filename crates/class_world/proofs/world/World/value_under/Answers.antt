use Rattle.class_world.proofs.Lemmas.{Some, length, map, get_or, ap, ◌∙◌, subst, option_map, Entries, held_dict, AreNodes, Holds, got-map, node-in, get-below, under-none, under-some}
use Rattle.std.proofs.Common.{◌<◌}
use Rattle.class_world.proofs.world.World.value_under.Goals as goal

pub returns-in-None-clause-value : goal.returns-in-None-clause-value
returns-in-None-clause-value c = λ t. under-none t c.args.self.now c.args.dict c.args.key c.in-None.ensures.first

pub returns-in-Some-clause-value : goal.returns-in-Some-clause-value
returns-in-Some-clause-value c = λ t.
    let now = c.args.self.now in
    let n = c.in-Some.place in
    let es = (held_dict now.nodes c.args.dict).items in
    under-some t now c.args.dict c.args.key n c.in-Some.ensures.first
    ∙ ap (option_map (λ e. e.1)) (get-below es n (record { 0 = 0 }, record { 0 = 0 }) c.in-Some.ensures.below)
    ∙ ap (λ (es : Entries). Some (get_or es n (record { 0 = 0 }, record { 0 = 0 })).1) c.entries.ensures.same

pub returns-in-Some-clause-node : goal.returns-in-Some-clause-node
returns-in-Some-clause-node c =
    let now = c.args.self.now in
    let n = c.in-Some.place in
    let es = c.entries.result.now in
    let below = subst (λ es. n < length es) c.entries.ensures.same c.in-Some.ensures.below in
    let e = get_or es n (record { 0 = 0 }, record { 0 = 0 }) in
    let nodes = subst (λ es. Holds now (AreNodes (map (λ e. e.1) es))) c.entries.ensures.same c.entries.ensures.holds.1.1.0 in
    node-in now (map (λ e. e.1) es) n e.1 nodes (got-map (λ e. e.1) es n e (get-below es n (record { 0 = 0 }, record { 0 = 0 }) below))
