use Rattle.proto_call.proofs.Below.{drop}
use Rattle.proto_call.proofs.ClassMake.EachBase.{Winning}
use Rattle.proto_call.proofs.class_make.bases.winner.Given as goal

abbrev pub invariant-loop-base : goal.invariant-loop-base
invariant-loop-base l = Winning l.world l.fn.meta l.class (drop l.base-index l.bases) l.bases
