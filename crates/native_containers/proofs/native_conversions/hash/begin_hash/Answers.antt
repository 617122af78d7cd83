use Rattle.native_containers.proofs.Lemmas.{pos, refl, hash-refused, hash-starts}
use Rattle.native_containers.proofs.native_conversions.hash.begin_hash.Goals as goal

pub returns-in-Err-clause-goes : goal.returns-in-Err-clause-goes
returns-in-Err-clause-goes c =
    let a = c.args in
    hash-refused a.call.args.now a.call.kw.now a.world.now c.in-Err.raised c.in-Err.ensures.refused

pub returns-in_ok-items-in-Ok-clause-goes : goal.returns-in_ok-items-in-Ok-clause-goes
returns-in_ok-items-in-Ok-clause-goes c =
    let a = c.args in
    hash-starts a.call.args.now a.call.kw.now c.in-Ok.object (record { items = c.in_ok-items-in-Ok.items; next = 0; hash = pos 1 }) a.world.now c.next_hash.result c.in-Ok.ensures.given c.in_ok-items-in-Ok.ensures.parts refl refl c.next_hash.ensures.goes
