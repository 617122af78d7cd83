-- What tables of sequences and mappings, and all slots of a class, have in a slot.
use Rattle.vm_calls.specs.Below.{Option, None, option_or, SlotId, SlotEntry}
use Rattle.py_node.specs.declared.entry.SlotId.TheVariants as slot
use Rattle.vm_calls.specs.SlotTables.Numbers.{number_entry}
use Rattle.vm_calls.specs.declared.slot_tables.type_slots.PySequenceMethods.{PySequenceMethods}
use Rattle.vm_calls.specs.declared.slot_tables.type_slots.PyMappingMethods.{PyMappingMethods}
use Rattle.vm_calls.specs.declared.slot_tables.type_slots.PyTypeSlots.{PyTypeSlots}

-- what a table of a sequence has in a slot
unfoldable pub sequence_entry : PySequenceMethods → SlotId → Option SlotEntry
sequence_entry t slot.SeqLength = t.length
sequence_entry t slot.SeqItem = t.item
sequence_entry t slot.SeqAssItem = t.ass_item
sequence_entry t slot.SeqContains = t.contains
sequence_entry t slot.Concat = t.concat
sequence_entry t slot.Repeat = t.repeat
sequence_entry t slot.InplaceConcat = t.inplace_concat
sequence_entry t slot.InplaceRepeat = t.inplace_repeat
sequence_entry t _ = None

-- what a table of a mapping has in a slot
unfoldable pub mapping_entry : PyMappingMethods → SlotId → Option SlotEntry
mapping_entry t slot.MapLength = t.length
mapping_entry t slot.MapSubscript = t.subscript
mapping_entry t slot.MapAssSubscript = t.ass_subscript
mapping_entry t _ = None

-- what the tables of a class have in a slot: each slot stands in at most one of them
abbrev pub table_entry : PyTypeSlots → SlotId → Option SlotEntry
table_entry t s = option_or (number_entry t.as_number s) (option_or (sequence_entry t.as_sequence s) (mapping_entry t.as_mapping s))

-- what a class has in a slot: the field of the slot's name, or what its table has
unfoldable pub type_entry : PyTypeSlots → SlotId → Option SlotEntry
type_entry t slot.Hash = t.hash
type_entry t slot.Call = t.call
type_entry t slot.Repr = t.repr
type_entry t slot.Getattro = t.getattro
type_entry t slot.Setattro = t.setattro
type_entry t slot.Richcompare = t.richcompare
type_entry t slot.Iter = t.iter
type_entry t slot.Iternext = t.iternext
type_entry t slot.DescrGet = t.descr_get
type_entry t slot.DescrSet = t.descr_set
type_entry t slot.Init = t.init
type_entry t slot.New = t.new
type_entry t slot.Del = t.del
type_entry t s = table_entry t s
