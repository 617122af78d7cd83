use Rattle.class_world.proofs.Lemmas.{List, sym, ap, ◌∙◌, subst, Change, IsLogged, Held, the_view}
use Rattle.std.proofs.Common.{◌≡◌}
use Rattle.class_world.proofs.world.World.class_log.Goals as goal

law : (w now : Held) (log : List Change) → w ≡ now → log ≡ w.log → IsLogged w.log w.classes → IsLogged log now.classes
law w now log v e h = subst (λ (u : Held). IsLogged log u.classes) v (subst (λ l. IsLogged l w.classes) (sym e) h)

pub returns-clause-shown : goal.returns-clause-shown
returns-clause-shown c = (law (the_view c.self.inside) c.args.self.now _ c.self.view_is c.changes.ensures c.self.invariant.logged).same

pub returns-clause-made : goal.returns-clause-made
returns-clause-made c = (law (the_view c.self.inside) c.args.self.now _ c.self.view_is c.changes.ensures c.self.invariant.logged).made

pub returns-clause-log : goal.returns-clause-log
returns-clause-log c = c.changes.ensures ∙ ap (λ (w : Held). w.log) c.self.view_is
