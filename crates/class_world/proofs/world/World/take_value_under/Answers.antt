use Rattle.class_world.proofs.Lemmas.{sym, ap, ◌∙◌, true≢false, is_some, under-none, under-taken, under-there}
use Rattle.class_world.proofs.world.World.take_value_under.Goals as goal

pub returns-in-None-clause-there : goal.returns-in-None-clause-there
returns-in-None-clause-there c = λ t. ap is_some (under-none t c.args.self.now c.args.dict c.args.key c.in-None.ensures.first)

pub returns-in-None-clause-taken : goal.returns-in-None-clause-taken
returns-in-None-clause-taken c = λ e. absurd (true≢false (sym e))

pub returns-in-Some-clause-there : goal.returns-in-Some-clause-there
returns-in-Some-clause-there c = λ t. under-there t c.args.self.now c.args.dict c.args.key c.in-Some.place c.in-Some.ensures.first

pub returns-in-Some-clause-taken : goal.returns-in-Some-clause-taken
returns-in-Some-clause-taken c = λ e t. c.take_entry.ensures.taken t ∙ under-taken t c.args.self.now c.args.dict c.args.key c.in-Some.place c.in-Some.ensures.first

pub returns-in-Some-clause-kept : goal.returns-in-Some-clause-kept
returns-in-Some-clause-kept c = λ e. absurd (true≢false e)
