use Rattle.proto_call.proofs.Lemmas.{length, arith, get_or, spelled, PyStrInterned, last-read, last-in, same-at}
use Rattle.std.proofs.Common.{◌-◌}
use Rattle.class_world.proofs.Filled.{name-at}
use Rattle.proto_call.proofs.body.last_name.Goals as goal

pub returns-in-len1-up-clause-spelled : goal.returns-in-len1-up-clause-spelled
returns-in-len1-up-clause-spelled c = λ t r.
    let xs = c.args.names.now in
    let n = length xs - 1 in
    let x : PyStrInterned = get_or xs n (record { 0 = 0 }) in
    last-read (spelled t) xs n x (omega (arith, c.in-len1-up.len_at_least)) (same-at xs n (record { 0 = 0 }) x (omega (arith, c.in-len1-up.len_at_least)))

pub returns-in-len1-up-clause-holds : goal.returns-in-len1-up-clause-holds
returns-in-len1-up-clause-holds c =
    let xs = c.args.names.now in
    let n = length xs - 1 in
    let x : PyStrInterned = get_or xs n (record { 0 = 0 }) in
    name-at c.args.world.now xs n x c.requires (omega (arith, c.in-len1-up.len_at_least)) (same-at xs n (record { 0 = 0 }) x (omega (arith, c.in-len1-up.len_at_least)))

pub returns-in-len1-up-clause-last : goal.returns-in-len1-up-clause-last
returns-in-len1-up-clause-last c =
    let xs = c.args.names.now in
    let n = length xs - 1 in
    let x : PyStrInterned = get_or xs n (record { 0 = 0 }) in
    last-in xs n x (omega (arith, c.in-len1-up.len_at_least)) (same-at xs n (record { 0 = 0 }) x (omega (arith, c.in-len1-up.len_at_least)))
