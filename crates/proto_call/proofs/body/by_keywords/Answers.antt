use Rattle.proto_call.proofs.Lemmas.{◌∙◌, Reading, Reads, plain, ok-map, opened_of, by_keywords_of, values-there, enters-by, filled-opens}
use Rattle.proto_call.proofs.body.by_keywords.Goals as goal

pub opened-requires-clause-vars : goal.opened-requires-clause-vars
opened-requires-clause-vars c =
    (rw c.in-Some.is at c.in_ok-with_keywords.ensures.holds) c.args.world.now c.requires.vars c.requires.kw

pub returns-then-all_filled-clause-goes : goal.returns-then-all_filled-clause-goes
returns-then-all_filled-clause-goes c =
    let w = c.args.world.now in
    let g = c.args.function.now in
    let f = c.args.f in
    let more = rw c.in-Some.is at c.in_ok-with_keywords.ensures.vars in
    let same = λ (t : Reading) (r : Reads t w). filled-opens t (plain t w) g f c.args.vars c.in-Some.vars c.args.kw.now c.single-singles.result.now (rw c.deref.ensures.value at c.single-singles.ensures.names t) (more t) (c.all_filled.ensures.filled t ∙ c.if-all_filled.true) in
    ok-map _ _ c.opened.result (λ step h. enters-by (opened_of g f c.in-Some.vars) (by_keywords_of g f c.args.vars c.args.kw.now) w w c.opened.new.world step (λ t r. r) same h) c.opened.ensures.goes

pub opened-requires-clause-values : goal.opened-requires-clause-values
opened-requires-clause-values c =
    let keeps = rw c.in-Some.is at c.in_ok-with_keywords.ensures.keeps in
    let g = c.args.function.now in
    let singles = rw c.deref.ensures.value at c.single-singles.ensures.held in
    values-there c.args.world.now c.args.f c.args.vars c.in-Some.vars g.params.items c.single-singles.result.now g.rest c.requires.params singles (c.all_filled.ensures.all c.if-all_filled.true) c.requires.rest keeps
