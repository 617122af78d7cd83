use Rattle.native_containers.proofs.Lemmas.{refl, no-nodes, text-refused, text-starts}
use Rattle.native_containers.proofs.native_conversions.texts.begin_text.Goals as goal

pub returns-in-Err-clause-goes : goal.returns-in-Err-clause-goes
returns-in-Err-clause-goes c =
    let a = c.args in
    text-refused a.container a.call.args.now a.call.kw.now a.world.now c.in-Err.raised c.in-Err.ensures.refused

pub next_text-requires : goal.next_text-requires
next_text-requires c = rw c.new-texts.ensures.items (c.in_ok-items-in-Ok.ensures.holds, (no-nodes c.args.world.now, tt))

pub returns-in_ok-items-in-Ok-clause-goes : goal.returns-in_ok-items-in-Ok-clause-goes
returns-in_ok-items-in-Ok-clause-goes c =
    let a = c.args in
    text-starts a.container a.call.args.now a.call.kw.now c.in-Ok.object (record { items = c.in_ok-items-in-Ok.items; next = 0; texts = c.new-texts.result }) a.world.now c.next_text.new.world c.next_text.result c.in-Ok.ensures.given c.in_ok-items-in-Ok.ensures.parts refl c.new-texts.ensures.items c.next_text.ensures.goes
