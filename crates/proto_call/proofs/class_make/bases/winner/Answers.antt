use Rattle.proto_call.proofs.Lemmas.{refl, add-one, arith, node-at, winning-step, winning-none, winning-ends, node-holds}
use Rattle.proto_call.proofs.class_make.bases.winner.Goals as goal

pub loop-base-init : goal.loop-base-init
loop-base-init c = record { read = λ t. refl; class = c.requires.meta; of = c.requires.meta_of }

pub metaclass-requires-clause-node : goal.metaclass-requires-clause-node
metaclass-requires-clause-node c =
    node-at c.args.world.now c.args.bases.now c.loop-base.base-index (record { 0 = 0 }) c.loop-base-test.true c.requires.bases

pub metaclass-requires-clause-holding : goal.metaclass-requires-clause-holding
metaclass-requires-clause-holding c =
    node-holds c.args.world.now c.args.bases.now c.loop-base.base-index (record { 0 = 0 }) c.loop-base-test.true c.requires.holding

pub derived-requires-clause-meta : goal.derived-requires-clause-meta
derived-requires-clause-meta c = c.loop-base.invariant.class

pub derived-requires-clause-meta_of : goal.derived-requires-clause-meta_of
derived-requires-clause-meta_of c = c.loop-base.invariant.of

pub returns-in-None-clause-winner : goal.returns-in-None-clause-winner
returns-in-None-clause-winner c =
    winning-none c.args.world.now c.args.meta c.loop-base.class c.loop-base.base-index c.args.bases.now (record { 0 = 0 }) c.metaclass.result c.derived.result c.loop-base.invariant c.loop-base-test.true c.metaclass.ensures.reads c.derived.ensures.derived c.in-None.is

pub loop-base-preserved : goal.loop-base-preserved
loop-base-preserved c =
    rw add-one (winning-step c.args.world.now c.args.meta c.loop-base.class c.loop-base.base-index c.args.bases.now (record { 0 = 0 }) c.metaclass.result c.derived.result c.loop-base.invariant c.loop-base-test.true c.metaclass.ensures.reads c.derived.ensures.derived c.in-Some.next c.in-Some.is c.derived.ensures.class c.derived.ensures.of)

pub returns-clause-winner : goal.returns-clause-winner
returns-clause-winner c =
    winning-ends c.args.world.now c.args.meta c.loop-base.class c.loop-base.base-index c.args.bases.now c.loop-base.invariant (omega (arith, c.loop-base-test.false))

pub returns-clause-class : goal.returns-clause-class
returns-clause-class c = (c.loop-base.invariant.class, tt)

pub returns-clause-of : goal.returns-clause-of
returns-clause-of c = c.loop-base.invariant.of
