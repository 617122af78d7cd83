use Rattle.proto_call.proofs.ClassMake.Descriptors.{Texting}
use Rattle.proto_call.proofs.class_make.slots.texts_of.Given as goal

abbrev pub invariant-loop-part : goal.invariant-loop-part
invariant-loop-part l = Texting l.fn.world l.world l.names.items l.part-index l.parts
