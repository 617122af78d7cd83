use Rattle.vm_calls.proofs.Lemmas.{mappings_read}
use Rattle.vm_calls.proofs.protocols.mapping.PyMapping.find_methods.Goals as goal

pub returns : goal.returns
returns c = λ t r. mappings_read _ _ (c.slot.ensures t r) (c.slot-2.ensures t r) (c.slot-3.ensures t r)
