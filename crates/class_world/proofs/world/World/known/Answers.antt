use Rattle.class_world.proofs.Lemmas.{ap, sym, ◌∙◌, PyStrInterned, Holds, known-read, known-within}
use Rattle.class_world.proofs.world.World.known.Goals as goal

pub returns-clause-spelled : goal.returns-clause-spelled
returns-clause-spelled c = λ t r.
    ap (λ (x : PyStrInterned). t.text x.0) c.interned.ensures
    ∙ sym (known-read c.args.self.now t (rw (← c.self.view_is) c.self.invariant.known) r c.args.name)

pub returns-clause-holds : goal.returns-clause-holds
unfolding Holds
returns-clause-holds c = known-within c.args.self.now (rw (← c.self.view_is) c.self.invariant.known) c.args.name c.interned.result c.interned.ensures
