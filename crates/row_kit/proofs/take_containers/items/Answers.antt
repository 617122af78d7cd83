use Rattle.row_kit.proofs.Lemmas.{ap, ◌∙◌, no-nodes, items_in, no-items}
use Rattle.row_kit.proofs.take_containers.items.Goals as goal

pub returns-in_default-clause-same : goal.returns-in_default-clause-same
returns-in_default-clause-same c = λ t. ap items_in (c.payload.ensures.reads t) ∙ no-items t c.payload.result.now c.in_default.not-Tuple c.in_default.not-List

pub returns-in_default-clause-holds : goal.returns-in_default-clause-holds
returns-in_default-clause-holds c = no-nodes c.args.world.now
