-- What a view of an object shows: the slots of its class.
use Rattle.vm_calls.specs.Below.{Bool, cond, not, Option, None, PyObjectRef, SlotId, Repr, SlotEntry, BySequence, ByMapping, is_slot, sort_of, is_sort, is_by_itself, PlainWorld, slot_at}
use Rattle.std.specs.Prelude.{◌≡◌, ◌&&◌}
use Rattle.vm_calls.specs.declared.slot_tables.number.PyNumberSlots.{PyNumberSlots}
use Rattle.vm_calls.specs.declared.slot_tables.type_slots.PySequenceMethods.{PySequenceMethods}
use Rattle.vm_calls.specs.declared.slot_tables.type_slots.PyMappingMethods.{PyMappingMethods}
use Rattle.vm_calls.specs.SlotTables.Numbers.{number_entry}
use Rattle.vm_calls.specs.SlotTables.Tables.{sequence_entry, mapping_entry}
use Rattle.vm_calls.specs.declared.protocols.callable.PyCallable.{PyCallable}

-- whether a slot is one of sequences, of mappings, or of numbers
abbrev pub is_of_sequences : SlotId → Bool
is_of_sequences s = is_sort (sort_of s) BySequence

abbrev pub is_of_mappings : SlotId → Bool
is_of_mappings s = is_sort (sort_of s) ByMapping

abbrev pub is_of_numbers : SlotId → Bool
is_of_numbers s = is_by_itself (sort_of s) && not (is_slot s Repr)

-- what is read in the slots of one kind, and nothing in the others
abbrev pub only : (SlotId → Bool) → (SlotId → Option SlotEntry) → SlotId → Option SlotEntry
only is_of read s = cond (is_of s) (read s) None

-- a table has what an object's class has in the slots of its kind, and nothing else
abbrev pub HasSequenceSlots : PlainWorld → PyObjectRef → PySequenceMethods → Type 0
HasSequenceSlots w o m = (s : SlotId) → sequence_entry m s ≡ only is_of_sequences (slot_at w o) s

abbrev pub HasMappingSlots : PlainWorld → PyObjectRef → PyMappingMethods → Type 0
HasMappingSlots w o m = (s : SlotId) → mapping_entry m s ≡ only is_of_mappings (slot_at w o) s

abbrev pub HasNumberSlots : PlainWorld → PyObjectRef → PyNumberSlots → Type 0
HasNumberSlots w o m = (s : SlotId) → number_entry m s ≡ only is_of_numbers (slot_at w o) s

-- the view of an object that this calls
abbrev pub called_by : PyObjectRef → SlotEntry → PyCallable
called_by o e = record { obj = o; call = e }
