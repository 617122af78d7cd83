use Rattle.native_containers.proofs.Lemmas.{nodes-append}
use Rattle.native_containers.proofs.sequence.joined.Goals as goal

pub returns-then-is_within_limit-clause-holds : goal.returns-then-is_within_limit-clause-holds
returns-then-is_within_limit-clause-holds c = rw c.in_ok-all.ensures (nodes-append c.args.world.now c.items.result.now c.items-2.result.now c.items.ensures.holds c.items-2.ensures.holds)
