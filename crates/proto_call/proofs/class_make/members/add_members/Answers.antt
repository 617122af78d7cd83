use Rattle.proto_call.proofs.Lemmas.{Some, arith, AreNames, IsOffset, name-at}
use Rattle.std.proofs.Common.{◌+◌}
use Rattle.proto_call.proofs.class_make.members.add_members.Goals as goal

pub add_member-requires-clause-name : goal.add_member-requires-clause-name
add_member-requires-clause-name c =
    name-at c.loop-i.world c.args.names.now c.loop-i.i (record { 0 = 0 }) (omega arith) (c.loop-i.invariant.grows.still (AreNames c.args.names.now) c.requires.names)

pub add_member-requires-clause-place : goal.add_member-requires-clause-place
add_member-requires-clause-place c =
    c.loop-i.invariant.grows.still (IsOffset c.args.class.0 (Some (c.args.first + c.loop-i.i))) (c.requires.offsets c.loop-i.i (omega arith))
