use Rattle.native_containers.proofs.Lemmas.{◌∙◌, [], bindings, plain, look_for, searcher_of, searcher-is, refused-enters, two-enters}
use Rattle.native_containers.proofs.native_items.search.contains.Goals as goal

pub returns-in-Err-clause-goes : goal.returns-in-Err-clause-goes
returns-in-Err-clause-goes c =
    let a = c.args in
    refused-enters (searcher_of a.sequence) a.call.args.now a.call.kw.now a.world.now c.in-Err.raised (λ t.
    searcher-is a.sequence c.kind_of.result c.kind_of.ensures (plain t a.world.now) a.call.args.now (bindings t a.call.kw.now) ∙ c.in-Err.ensures.refused t (λ o x. look_for (plain t a.world.now) o x []))

pub returns-in-Ok-clause-goes : goal.returns-in-Ok-clause-goes
returns-in-Ok-clause-goes c =
    let a = c.args in
    let p = c.in-Ok in
    two-enters (searcher_of a.sequence) c.kind_of.result look_for (searcher-is a.sequence c.kind_of.result c.kind_of.ensures) a.call.args.now a.call.kw.now p.object p.needle a.world.now a.world.now c.first_asked.result p.ensures.given c.first_asked.ensures.goes
