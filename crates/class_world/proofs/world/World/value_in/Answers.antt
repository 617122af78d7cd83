use Rattle.class_world.proofs.Lemmas.{Some, length, map, get_or, ap, ◌∙◌, subst, arith, option_map, Entries, is_held_key, held_entries, held_text, AreNodes, Holds, got-map, node-in, first-key, get-below, none-named, first-named, no-value, first-value}
use Rattle.std.proofs.Common.{◌≡◌, ◌<◌}
use Rattle.class_world.proofs.world.World.value_in.Goals as goal

pub returns-in-None-clause-value : goal.returns-in-None-clause-value
returns-in-None-clause-value c = λ t r.
    let now = c.args.self.now in
    no-value t now c.args.dict (t.text c.args.name.0) (none-named t now c.args.dict c.args.name r c.requires.name c.in-None.ensures.first)

pub returns-in-Some-clause-value : goal.returns-in-Some-clause-value
returns-in-Some-clause-value c = λ t r.
    let now = c.args.self.now in
    let n = c.in-Some.place in
    let f = first-named t now c.args.dict c.args.name r c.requires.name n c.in-Some.ensures.first in
    let same : n ≡ f.place = omega (arith, f.is) in
    let l = f.below in
    let below : n < length (held_entries now.nodes c.args.dict) = omega (arith, l, same) in
    first-value t now c.args.dict (t.text c.args.name.0) n f
    ∙ ap (option_map (λ e. e.1)) (get-below (held_entries now.nodes c.args.dict) n (record { 0 = 0 }, record { 0 = 0 }) below)
    ∙ ap (λ (es : Entries). Some (get_or es n (record { 0 = 0 }, record { 0 = 0 })).1) c.entries.ensures.same

pub returns-in-Some-clause-node : goal.returns-in-Some-clause-node
returns-in-Some-clause-node c =
    let now = c.args.self.now in
    let n = c.in-Some.place in
    let es = c.entries.result.now in
    let f = first-key (is_held_key now.nodes (held_text now c.args.name)) n (held_entries now.nodes c.args.dict) c.in-Some.ensures.first in
    let same : n ≡ f.place = omega (arith, f.is) in
    let l = subst (λ es. f.place < length es) c.entries.ensures.same f.below in
    let below : n < length es = omega (arith, l, same) in
    let e = get_or es n (record { 0 = 0 }, record { 0 = 0 }) in
    node-in now (map (λ e. e.1) es) n e.1 (subst (λ es. Holds now (AreNodes (map (λ e. e.1) es))) c.entries.ensures.same c.entries.ensures.holds.1.1.0) (got-map (λ e. e.1) es n e (get-below es n (record { 0 = 0 }, record { 0 = 0 }) below))
