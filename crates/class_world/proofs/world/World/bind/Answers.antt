use Rattle.class_world.proofs.Lemmas.{the_view, IsName, IsNode, opened-one, grows-seen, bind-sound, bind-read, bind-grows}
use Rattle.class_world.proofs.world.World.bind.Goals as goal

pub invariant_of-self : goal.invariant_of-self
invariant_of-self c =
    let w = the_view c.self.inside in
    let name = opened-one w c.args.self.now (IsName c.args.name) c.self.view_is c.requires.name in
    let value = opened-one w c.args.self.now (IsNode c.args.value) c.self.view_is c.requires.value in
    let e = c.bind_in.ensures in
    bind-sound w c.args.name c.args.value c.bind_in.new.vars c.bind_in.new.scopes.items c.bind_in.result e.vars e.scopes e.same_vars e.same_scopes c.self.invariant name value

pub returns-clause-bound : goal.returns-clause-bound
returns-clause-bound c =
    bind-read (the_view c.self.inside) c.args.name c.args.value c.bind_in.new.vars c.bind_in.new.scopes.items c.args.self.now c.bind_in.result c.bind_in.ensures.vars c.bind_in.ensures.scopes c.self.view_is

pub returns-clause-grows : goal.returns-clause-grows
returns-clause-grows c = grows-seen (the_view c.self.inside) _ _ c.self.view_is (bind-grows (the_view c.self.inside) c.args.name c.args.value c.bind_in.new.vars c.bind_in.new.scopes.items c.bind_in.result c.bind_in.ensures.scopes c.bind_in.ensures.same_scopes)
