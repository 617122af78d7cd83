use Rattle.vm_calls.proofs.Lemmas.{sequences_read}
use Rattle.vm_calls.proofs.protocols.sequence.PySequence.find_methods.Goals as goal

pub returns : goal.returns
returns c = λ t r. sequences_read _ _ (c.slot.ensures t r) (c.slot-2.ensures t r) (c.slot-3.ensures t r) (c.slot-4.ensures t r) (c.slot-5.ensures t r) (c.slot-6.ensures t r) (c.slot-7.ensures t r) (c.slot-8.ensures t r)
