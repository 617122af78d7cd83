use Rattle.vm_calls.proofs.Lemmas.{refl, no_slots, no_sequence, no_mapping}
use Rattle.vm_calls.proofs.slot_tables.type_slots.PyTypeSlots.new.Goals as goal

-- src/type_slots.rt:136:5
pub returns-clause-empty : goal.returns-clause-empty
returns-clause-empty c = no_slots _ c.default.ensures no_sequence no_mapping refl refl refl refl refl refl refl refl refl refl refl refl refl
