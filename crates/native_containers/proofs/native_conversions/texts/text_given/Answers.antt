use Rattle.native_containers.proofs.Lemmas.{refl, more-nodes, text-more, text-other}
use Rattle.native_containers.proofs.native_conversions.texts.text_given.Goals as goal

pub returns-in-Err-clause-goes : goal.returns-in-Err-clause-goes
returns-in-Err-clause-goes c =
    text-other c.args.container c.args.parts c.args.answer c.in-Err.other c.args.world.now c.in-Err.ensures.other c.in-Err.ensures.same

pub next_text-requires : goal.next_text-requires
next_text-requires c =
    let w = c.args.world.now in
    let answer = rw c.in-Ok.ensures.object at c.requires.answer in
    rw c.in_ok-push-in-Ok.ensures.items (c.requires.parts.0, (more-nodes w c.args.parts.texts.items c.in-Ok.text c.requires.parts.1.0 answer.0, tt))

pub returns-in_ok-push-in-Ok-clause-goes : goal.returns-in_ok-push-in-Ok-clause-goes
returns-in_ok-push-in-Ok-clause-goes c =
    let p = c.args.parts in
    text-more c.args.container p (record { items = p.items; next = p.next; texts = c.push.new.self }) c.args.answer c.in-Ok.text c.args.world.now c.next_text.new.world c.next_text.result c.in-Ok.ensures.object c.in_ok-push-in-Ok.ensures.items refl c.next_text.ensures.goes
