use Rattle.proto_call.proofs.Lemmas.{grows-itself}
use Rattle.proto_call.proofs.object_natives.object_native.Goals as goal

pub returns-in_ok-object_hash-in-Hash-clause-safe : goal.returns-in_ok-object_hash-in-Hash-clause-safe
returns-in_ok-object_hash-in-Hash-clause-safe c = let w = c.args.world.now in (grows-itself w, c.in_ok-object_hash-in-Hash.ensures.holds w)
