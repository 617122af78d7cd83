use Rattle.proto_call.proofs.Lemmas.{◌∙◌, eqb, [], ap, sym, string_bytes, option_map, place_of, MroEntries, known_text, numbers, Asks, Chose, DoGetAttr, ToAttribute, plain, bindings, by_bases, by_winner, classes_of, on_bases, winner, goes-from, makes-from, none-goes, other-goes, classes-go}
use Rattle.std.proofs.Common.{◌∷◌}
use Rattle.proto_call.proofs.class_make.bases.by_bases.Goals as goal

pub returns-then-is_empty-clause-goes : goal.returns-then-is_empty-clause-goes
unfolding place_of
returns-then-is_empty-clause-goes c =
    let w = c.args.world.now in
    let m = c.args.meta.0 in
    let n = string_bytes c.args.body.name in
    let bs = c.args.bases.items in
    let es = c.args.body.entries.items in
    let args = c.args.call.args.items in
    let only = c.in_ok-only.only.items in
    goes-from c.args.call.kw.items (λ t u. by_bases u m n bs es args (bindings t c.args.call.kw.items)) (λ t u. on_bases u m n (numbers only) es (bindings t c.args.call.kw.items)) w w c.on_bases.new.world c.on_bases.result (λ t r.
    (r, none-goes (plain t w) m n bs only c.built_in-object.result es args (bindings t c.args.call.kw.items) (ap (λ n. eqb n 0) (sym c.args.bases.ok.0) ∙ sym c.is_empty.ensures ∙ c.if-is_empty.true) c.in_ok-only.ensures.items c.built_in-object.ensures.place))
    c.on_bases.ensures.goes

pub returns-in-Err-clause-goes : goal.returns-in-Err-clause-goes
returns-in-Err-clause-goes c =
    let w = c.args.world.now in
    let m = c.args.meta.0 in
    let n = string_bytes c.args.body.name in
    let bs = c.args.bases.items in
    let es = c.args.body.entries.items in
    let args = c.args.call.args.items in
    let other = c.in-Err.other in
    let found = rw c.in-Err.is at c.in_ok-classes.ensures.other in
    let goes = rw c.deref-in-Err.ensures.value at c.ask_others.ensures.goes in
    makes-from c.args.call.kw.items (λ t u. by_bases u m n bs es args (bindings t c.args.call.kw.items)) (λ t u. Asks u (Chose 0 ∷ []) (ToAttribute (DoGetAttr other (known_text MroEntries)))) w w w c.ask_others.result (λ t r.
    (r, other-goes (plain t w) m n bs other es args (bindings t c.args.call.kw.items) (ap (λ n. eqb n 0) (sym c.args.bases.ok.0) ∙ sym c.is_empty.ensures ∙ c.if-is_empty.false) (ap (classes_of (plain t w)) (sym c.deref.ensures.value) ∙ found t)))
    goes

pub returns-clause-goes : goal.returns-clause-goes
returns-clause-goes c =
    let w = c.args.world.now in
    let m = c.args.meta.0 in
    let n = string_bytes c.args.body.name in
    let bs = c.args.bases.items in
    let es = c.args.body.entries.items in
    let args = c.args.call.args.items in
    let cs = numbers c.in-Ok.classes.items in
    let o = option_map (λ d. d.0) c.winner-winner.result in
    let found = rw c.in-Ok.is at c.in_ok-classes.ensures.classes in
    goes-from c.args.call.kw.items (λ t u. by_bases u m n bs es args (bindings t c.args.call.kw.items)) (λ t u. by_winner u m o n cs es args (bindings t c.args.call.kw.items)) w w c.by_winner.new.world c.by_winner.result (λ t r.
    (r, classes-go (plain t w) m n bs cs o es args (bindings t c.args.call.kw.items) (ap (λ n. eqb n 0) (sym c.args.bases.ok.0) ∙ sym c.is_empty.ensures ∙ c.if-is_empty.false) (ap (classes_of (plain t w)) (sym c.deref.ensures.value) ∙ found t) (ap (winner (plain t w) m) (sym c.deref-in-Ok.ensures.value) ∙ c.winner-winner.ensures.winner t)))
    c.by_winner.ensures.goes
