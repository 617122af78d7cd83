use Rattle.native_containers.proofs.Lemmas.{refl, all-grow, grows-itself, keyword-holds}
use Rattle.native_containers.proofs.init.set_names.Goals as goal

pub loop-keyword-init : goal.loop-keyword-init
loop-keyword-init c = record { set = λ t r. (r, refl); grows = grows-itself c.args.world.now }

pub has_place-requires-clause-name : goal.has_place-requires-clause-name
has_place-requires-clause-name c = (keyword-holds c.loop-keyword.world c.args.kw.now c.loop-keyword.keyword-index _ c.loop-keyword-test.true (all-grow c.args.world.now c.loop-keyword.world c.loop-keyword.invariant.grows _ c.requires.kw)).0

pub set_value_in-requires-clause-name : goal.set_value_in-requires-clause-name
set_value_in-requires-clause-name c = (keyword-holds c.loop-keyword.world c.args.kw.now c.loop-keyword.keyword-index _ c.loop-keyword-test.true (all-grow c.args.world.now c.loop-keyword.world c.loop-keyword.invariant.grows _ c.requires.kw)).0

pub set_value_in-requires-clause-value : goal.set_value_in-requires-clause-value
set_value_in-requires-clause-value c = (keyword-holds c.loop-keyword.world c.args.kw.now c.loop-keyword.keyword-index _ c.loop-keyword-test.true (all-grow c.args.world.now c.loop-keyword.world c.loop-keyword.invariant.grows _ c.requires.kw)).1
