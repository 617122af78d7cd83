use Rattle.proto_call.proofs.Lemmas.{true, sym, ap, ◌∙◌, rules, Reading, Reads, plain, of_binding, of_each, all-grow, ok-map, is_empty, by_keywords_of, by_place_of, enters-by, rest-fills, all-fill, empty-is}
use Rattle.std.proofs.Common.{◌≡◌}
use Rattle.proto_call.proofs.body.by_place.Goals as goal

pub by_keywords-requires-clause-kw : goal.by_keywords-requires-clause-kw
by_keywords-requires-clause-kw c =
    all-grow c.args.world.now c.with_rest.new.world c.with_rest.ensures.grows (of_each of_binding c.args.call.kw.now) c.requires.args.1

pub returns-in_ok-vars-clause-goes : goal.returns-in_ok-vars-clause-goes
returns-in_ok-vars-clause-goes c =
    let w = c.args.world.now in
    let mid = c.with_rest.new.world in
    let g = c.args.function.now in
    let f = c.args.f in
    let args = c.args.call.args.now in
    let kw = c.args.call.kw.now in
    let vars = c.in_ok-vars.vars in
    let fit : c.rest_fits.result ≡ true = search rules in
    let tested = rw c.deref.ensures.value at c.rest_fits.ensures in
    let fits = λ (t : Reading). tested t ∙ fit in
    let made = rw c.deref-then-function.ensures.value at c.in_ok-vars.ensures.made in
    let filling = rw c.deref-then-function.ensures.value at c.in_ok-vars.ensures.vars in
    let same = λ (t : Reading) (r : Reads t mid). rest-fills t (plain t w) (plain t mid) g f args vars kw c.if-function.true (fits t) (made t) (filling t r) in
    ok-map _ _ c.by_keywords.result (λ step h. enters-by (by_keywords_of g f vars kw) (by_place_of g f args kw) w mid c.by_keywords.new.world step c.with_rest.ensures.reads same h) c.by_keywords.ensures.goes

pub returns-in_ok-vars-2-clause-goes : goal.returns-in_ok-vars-2-clause-goes
returns-in_ok-vars-2-clause-goes c =
    let w = c.args.world.now in
    let g = c.args.function.now in
    let f = c.args.f in
    let args = c.args.call.args.now in
    let kw = c.args.call.kw.now in
    let vars = c.in_ok-vars-2.vars in
    let left = rw c.deref-else-function.ensures.value at c.left_over.ensures.items in
    let filling = rw c.deref-then-is_empty.ensures.value at c.in_ok-vars-2.ensures.vars in
    let none = empty-is c.left_over.result.now ∙ sym c.is_empty.ensures ∙ c.if-is_empty.true in
    let same = λ (t : Reading) (r : Reads t w). all-fill t (plain t w) g f args vars kw c.if-function.false (ap is_empty (sym (left t)) ∙ none) (filling t) in
    ok-map _ _ c.by_keywords-then-is_empty.result (λ step h. enters-by (by_keywords_of g f vars kw) (by_place_of g f args kw) w w c.by_keywords-then-is_empty.new.world step (λ t r. r) same h) c.by_keywords-then-is_empty.ensures.goes
