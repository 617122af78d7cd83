use Rattle.class_world.proofs.Lemmas.{the_view, Holds, IsExpression, of_form, got, opened-one, each-get, seen}
use Rattle.class_world.proofs.world.World.form.Goals as goal

pub index-requires : goal.index-requires
unfolding Holds
index-requires c = rw c.self.inside.forms.ok.0 (opened-one (the_view c.self.inside) c.args.self.now (IsExpression c.args.expr) c.self.view_is c.requires)

pub returns-clause-stored : goal.returns-clause-stored
unfolding Holds
returns-clause-stored c =
    let w = the_view c.self.inside in
    let here = opened-one w c.args.self.now (IsExpression c.args.expr) c.self.view_is c.requires in
    rw (← c.self.view_is) (got w.forms c.args.expr.0 c.index.result.now here c.index.ensures)

pub returns-clause-reads : goal.returns-clause-reads
unfolding Holds
returns-clause-reads c = λ t.
    let w = the_view c.self.inside in
    let here = opened-one w c.args.self.now (IsExpression c.args.expr) c.self.view_is c.requires in
    let e = got w.forms c.args.expr.0 c.index.result.now here c.index.ensures in
    rw (← c.self.view_is) (λ r. r.trees c.args.expr.0 c.index.result.now e)

pub returns-clause-holds : goal.returns-clause-holds
unfolding Holds
returns-clause-holds c =
    let w = the_view c.self.inside in
    let here = opened-one w c.args.self.now (IsExpression c.args.expr) c.self.view_is c.requires in
    let e = got w.forms c.args.expr.0 c.index.result.now here c.index.ensures in
    seen w c.args.self.now (of_form c.index.result.now) c.self.view_is (each-get w of_form w.forms c.args.expr.0 c.index.result.now e c.self.invariant.forms)
