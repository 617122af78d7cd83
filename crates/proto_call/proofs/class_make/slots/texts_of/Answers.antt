use Rattle.proto_call.proofs.Lemmas.{add-one, AreNodes, grows-itself, no-names, node-at, texting-begins, texting-refused, texting-step}
use Rattle.proto_call.proofs.class_make.slots.texts_of.Goals as goal

pub name_at-requires : goal.name_at-requires
name_at-requires c =
    node-at c.loop-part.world c.args.parts.now c.loop-part.part-index (record { 0 = 0 }) c.loop-part-test.true (c.loop-part.invariant.grows.still (AreNodes c.args.parts.now) c.requires)

pub loop-part-preserved : goal.loop-part-preserved
loop-part-preserved c =
    let e = c.in_ok-next.ensures in
    rw add-one (texting-step c.args.world.now c.loop-part.world c.name_at.new.world c.loop-part.names.items c.loop-part.part-index c.args.parts.now (record { 0 = 0 }) c.in_ok-next.next c.loop-part.invariant c.loop-part-test.true e.name e.reads c.in-Some.name c.push.new.self.items c.in-Some.is c.in_ok-push-in-Some.ensures.items e.same e.grows e.holds)

pub returns-in-None-clause-names : goal.returns-in-None-clause-names
returns-in-None-clause-names c = λ t r.
    let e = c.in_ok-next.ensures in
    texting-refused c.args.world.now c.loop-part.world c.name_at.new.world c.loop-part.names.items c.loop-part.part-index c.args.parts.now (record { 0 = 0 }) c.in_ok-next.next c.loop-part.invariant c.loop-part-test.true e.name e.reads t r c.in-None.is

pub loop-part-init : goal.loop-part-init
loop-part-init c =
    texting-begins c.args.world.now c.new-names.result.items c.args.parts.now c.new-names.ensures.items (no-names c.args.world.now) (grows-itself c.args.world.now)
