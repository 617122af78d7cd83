use Rattle.proto_call.proofs.Lemmas.{add-one, pair-in, naming-step, AreNodes, map}
use Rattle.proto_call.proofs.class_make.namespace.namespace.Goals as goal

pub with_key-requires-clause-key : goal.with_key-requires-clause-key
with_key-requires-clause-key c =
    let es = c.args.entries.now in
    pair-in c.loop-key.world (λ e. e.0) es c.loop-key.key-index (record { 0 = 0 }, record { 0 = 0 }) c.loop-key-test.true (c.loop-key.invariant.grows.still (AreNodes (map (λ e. e.0) es)) c.requires.keys)

pub with_key-requires-clause-value : goal.with_key-requires-clause-value
with_key-requires-clause-value c =
    let es = c.args.entries.now in
    pair-in c.loop-key.world (λ e. e.1) es c.loop-key.key-index (record { 0 = 0 }, record { 0 = 0 }) c.loop-key-test.true (c.loop-key.invariant.grows.still (AreNodes (map (λ e. e.1) es)) c.requires.values)

pub loop-key-preserved : goal.loop-key-preserved
loop-key-preserved c =
    let e = c.in_ok-next.ensures in
    rw add-one (naming-step c.args.world.now c.loop-key.world c.with_key.new.world c.loop-key.attrs c.in-Some.more c.args.entries.now c.loop-key.key-index (record { 0 = 0 }, record { 0 = 0 }) c.in_ok-next.next c.loop-key.invariant c.loop-key-test.true e.named c.in-Some.is e.same e.reads e.grows e.holds)
