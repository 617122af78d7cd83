-- A table whose fields are what is read in the slots of a kind has just that in each slot.
use Rattle.vm_calls.proofs.Below.{Option, refl, sym, PyObjectRef, SlotId, SlotEntry, sort_of, slot_sorts, place_of, PyNumberSlots, PySequenceMethods, PyMappingMethods, number_entry, sequence_entry, mapping_entry, PlainWorld, slot_at, only, is_of_sequences, is_of_mappings, is_of_numbers, HasSequenceSlots, HasMappingSlots}
use Rattle.std.proofs.Common.{◌≡◌}
use Rattle.py_node.specs.declared.entry.SlotId.TheVariants as slot

pub sequences_read : (read : SlotId → Option SlotEntry) (m : PySequenceMethods) → read slot.SeqLength ≡ m.length → read slot.SeqItem ≡ m.item → read slot.SeqAssItem ≡ m.ass_item → read slot.SeqContains ≡ m.contains → read slot.Concat ≡ m.concat → read slot.Repeat ≡ m.repeat → read slot.InplaceConcat ≡ m.inplace_concat → read slot.InplaceRepeat ≡ m.inplace_repeat → (s : SlotId) → sequence_entry m s ≡ only is_of_sequences read s
unfolding sequence_entry sort_of slot_sorts place_of
sequences_read read m e0 _ _ _ _ _ _ _ slot.SeqLength = sym e0
sequences_read read m _ e1 _ _ _ _ _ _ slot.SeqItem = sym e1
sequences_read read m _ _ e2 _ _ _ _ _ slot.SeqAssItem = sym e2
sequences_read read m _ _ _ e3 _ _ _ _ slot.SeqContains = sym e3
sequences_read read m _ _ _ _ e4 _ _ _ slot.Concat = sym e4
sequences_read read m _ _ _ _ _ e5 _ _ slot.Repeat = sym e5
sequences_read read m _ _ _ _ _ _ e6 _ slot.InplaceConcat = sym e6
sequences_read read m _ _ _ _ _ _ _ e7 slot.InplaceRepeat = sym e7
sequences_read read m _ _ _ _ _ _ _ _ _ = refl

pub mappings_read : (read : SlotId → Option SlotEntry) (m : PyMappingMethods) → read slot.MapLength ≡ m.length → read slot.MapSubscript ≡ m.subscript → read slot.MapAssSubscript ≡ m.ass_subscript → (s : SlotId) → mapping_entry m s ≡ only is_of_mappings read s
unfolding mapping_entry sort_of slot_sorts place_of
mappings_read read m e0 _ _ slot.MapLength = sym e0
mappings_read read m _ e1 _ slot.MapSubscript = sym e1
mappings_read read m _ _ e2 slot.MapAssSubscript = sym e2
mappings_read read m _ _ _ _ = refl

pub numbers_read : (read : SlotId → Option SlotEntry) (m : PyNumberSlots) → read slot.Add ≡ m.add → read slot.RightAdd ≡ m.right_add → read slot.InplaceAdd ≡ m.inplace_add → read slot.Subtract ≡ m.subtract → read slot.RightSubtract ≡ m.right_subtract → read slot.InplaceSubtract ≡ m.inplace_subtract → read slot.Multiply ≡ m.multiply → read slot.RightMultiply ≡ m.right_multiply → read slot.InplaceMultiply ≡ m.inplace_multiply → read slot.Remainder ≡ m.remainder → read slot.RightRemainder ≡ m.right_remainder → read slot.InplaceRemainder ≡ m.inplace_remainder → read slot.Divmod ≡ m.divmod → read slot.RightDivmod ≡ m.right_divmod → read slot.Power ≡ m.power → read slot.RightPower ≡ m.right_power → read slot.InplacePower ≡ m.inplace_power → read slot.Lshift ≡ m.lshift → read slot.RightLshift ≡ m.right_lshift → read slot.InplaceLshift ≡ m.inplace_lshift → read slot.Rshift ≡ m.rshift → read slot.RightRshift ≡ m.right_rshift → read slot.InplaceRshift ≡ m.inplace_rshift → read slot.And ≡ m.and → read slot.RightAnd ≡ m.right_and → read slot.InplaceAnd ≡ m.inplace_and → read slot.Xor ≡ m.xor → read slot.RightXor ≡ m.right_xor → read slot.InplaceXor ≡ m.inplace_xor → read slot.Or ≡ m.or → read slot.RightOr ≡ m.right_or → read slot.InplaceOr ≡ m.inplace_or → read slot.FloorDivide ≡ m.floor_divide → read slot.RightFloorDivide ≡ m.right_floor_divide → read slot.InplaceFloorDivide ≡ m.inplace_floor_divide → read slot.TrueDivide ≡ m.true_divide → read slot.RightTrueDivide ≡ m.right_true_divide → read slot.InplaceTrueDivide ≡ m.inplace_true_divide → read slot.MatrixMultiply ≡ m.matrix_multiply → read slot.RightMatrixMultiply ≡ m.right_matrix_multiply → read slot.InplaceMatrixMultiply ≡ m.inplace_matrix_multiply → read slot.Int ≡ m.int → read slot.Index ≡ m.index → read slot.Float ≡ m.float → read slot.Negative ≡ m.negative → read slot.Positive ≡ m.positive → read slot.Absolute ≡ m.absolute → read slot.Invert ≡ m.invert → read slot.Boolean ≡ m.boolean → (s : SlotId) → number_entry m s ≡ only is_of_numbers read s
unfolding number_entry sort_of slot_sorts place_of
numbers_read read m e0 _ _ _ _ _ _ _ _ _ _ _ _ _ _ _ _ _ _ _ _ _ _ _ _ _ _ _ _ _ _ _ _ _ _ _ _ _ _ _ _ _ _ _ _ _ _ _ _ slot.Add = sym e0
numbers_read read m _ e1 _ _ _ _ _ _ _ _ _ _ _ _ _ _ _ _ _ _ _ _ _ _ _ _ _ _ _ _ _ _ _ _ _ _ _ _ _ _ _ _ _ _ _ _ _ _ _ slot.RightAdd = sym e1
numbers_read read m _ _ e2 _ _ _ _ _ _ _ _ _ _ _ _ _ _ _ _ _ _ _ _ _ _ _ _ _ _ _ _ _ _ _ _ _ _ _ _ _ _ _ _ _ _ _ _ _ _ slot.InplaceAdd = sym e2
numbers_read read m _ _ _ e3 _ _ _ _ _ _ _ _ _ _ _ _ _ _ _ _ _ _ _ _ _ _ _ _ _ _ _ _ _ _ _ _ _ _ _ _ _ _ _ _ _ _ _ _ _ slot.Subtract = sym e3
numbers_read read m _ _ _ _ e4 _ _ _ _ _ _ _ _ _ _ _ _ _ _ _ _ _ _ _ _ _ _ _ _ _ _ _ _ _ _ _ _ _ _ _ _ _ _ _ _ _ _ _ _ slot.RightSubtract = sym e4
numbers_read read m _ _ _ _ _ e5 _ _ _ _ _ _ _ _ _ _ _ _ _ _ _ _ _ _ _ _ _ _ _ _ _ _ _ _ _ _ _ _ _ _ _ _ _ _ _ _ _ _ _ slot.InplaceSubtract = sym e5
numbers_read read m _ _ _ _ _ _ e6 _ _ _ _ _ _ _ _ _ _ _ _ _ _ _ _ _ _ _ _ _ _ _ _ _ _ _ _ _ _ _ _ _ _ _ _ _ _ _ _ _ _ slot.Multiply = sym e6
numbers_read read m _ _ _ _ _ _ _ e7 _ _ _ _ _ _ _ _ _ _ _ _ _ _ _ _ _ _ _ _ _ _ _ _ _ _ _ _ _ _ _ _ _ _ _ _ _ _ _ _ _ slot.RightMultiply = sym e7
numbers_read read m _ _ _ _ _ _ _ _ e8 _ _ _ _ _ _ _ _ _ _ _ _ _ _ _ _ _ _ _ _ _ _ _ _ _ _ _ _ _ _ _ _ _ _ _ _ _ _ _ _ slot.InplaceMultiply = sym e8
numbers_read read m _ _ _ _ _ _ _ _ _ e9 _ _ _ _ _ _ _ _ _ _ _ _ _ _ _ _ _ _ _ _ _ _ _ _ _ _ _ _ _ _ _ _ _ _ _ _ _ _ _ slot.Remainder = sym e9
numbers_read read m _ _ _ _ _ _ _ _ _ _ e10 _ _ _ _ _ _ _ _ _ _ _ _ _ _ _ _ _ _ _ _ _ _ _ _ _ _ _ _ _ _ _ _ _ _ _ _ _ _ slot.RightRemainder = sym e10
numbers_read read m _ _ _ _ _ _ _ _ _ _ _ e11 _ _ _ _ _ _ _ _ _ _ _ _ _ _ _ _ _ _ _ _ _ _ _ _ _ _ _ _ _ _ _ _ _ _ _ _ _ slot.InplaceRemainder = sym e11
numbers_read read m _ _ _ _ _ _ _ _ _ _ _ _ e12 _ _ _ _ _ _ _ _ _ _ _ _ _ _ _ _ _ _ _ _ _ _ _ _ _ _ _ _ _ _ _ _ _ _ _ _ slot.Divmod = sym e12
numbers_read read m _ _ _ _ _ _ _ _ _ _ _ _ _ e13 _ _ _ _ _ _ _ _ _ _ _ _ _ _ _ _ _ _ _ _ _ _ _ _ _ _ _ _ _ _ _ _ _ _ _ slot.RightDivmod = sym e13
numbers_read read m _ _ _ _ _ _ _ _ _ _ _ _ _ _ e14 _ _ _ _ _ _ _ _ _ _ _ _ _ _ _ _ _ _ _ _ _ _ _ _ _ _ _ _ _ _ _ _ _ _ slot.Power = sym e14
numbers_read read m _ _ _ _ _ _ _ _ _ _ _ _ _ _ _ e15 _ _ _ _ _ _ _ _ _ _ _ _ _ _ _ _ _ _ _ _ _ _ _ _ _ _ _ _ _ _ _ _ _ slot.RightPower = sym e15
numbers_read read m _ _ _ _ _ _ _ _ _ _ _ _ _ _ _ _ e16 _ _ _ _ _ _ _ _ _ _ _ _ _ _ _ _ _ _ _ _ _ _ _ _ _ _ _ _ _ _ _ _ slot.InplacePower = sym e16
numbers_read read m _ _ _ _ _ _ _ _ _ _ _ _ _ _ _ _ _ e17 _ _ _ _ _ _ _ _ _ _ _ _ _ _ _ _ _ _ _ _ _ _ _ _ _ _ _ _ _ _ _ slot.Lshift = sym e17
numbers_read read m _ _ _ _ _ _ _ _ _ _ _ _ _ _ _ _ _ _ e18 _ _ _ _ _ _ _ _ _ _ _ _ _ _ _ _ _ _ _ _ _ _ _ _ _ _ _ _ _ _ slot.RightLshift = sym e18
numbers_read read m _ _ _ _ _ _ _ _ _ _ _ _ _ _ _ _ _ _ _ e19 _ _ _ _ _ _ _ _ _ _ _ _ _ _ _ _ _ _ _ _ _ _ _ _ _ _ _ _ _ slot.InplaceLshift = sym e19
numbers_read read m _ _ _ _ _ _ _ _ _ _ _ _ _ _ _ _ _ _ _ _ e20 _ _ _ _ _ _ _ _ _ _ _ _ _ _ _ _ _ _ _ _ _ _ _ _ _ _ _ _ slot.Rshift = sym e20
numbers_read read m _ _ _ _ _ _ _ _ _ _ _ _ _ _ _ _ _ _ _ _ _ e21 _ _ _ _ _ _ _ _ _ _ _ _ _ _ _ _ _ _ _ _ _ _ _ _ _ _ _ slot.RightRshift = sym e21
numbers_read read m _ _ _ _ _ _ _ _ _ _ _ _ _ _ _ _ _ _ _ _ _ _ e22 _ _ _ _ _ _ _ _ _ _ _ _ _ _ _ _ _ _ _ _ _ _ _ _ _ _ slot.InplaceRshift = sym e22
numbers_read read m _ _ _ _ _ _ _ _ _ _ _ _ _ _ _ _ _ _ _ _ _ _ _ e23 _ _ _ _ _ _ _ _ _ _ _ _ _ _ _ _ _ _ _ _ _ _ _ _ _ slot.And = sym e23
numbers_read read m _ _ _ _ _ _ _ _ _ _ _ _ _ _ _ _ _ _ _ _ _ _ _ _ e24 _ _ _ _ _ _ _ _ _ _ _ _ _ _ _ _ _ _ _ _ _ _ _ _ slot.RightAnd = sym e24
numbers_read read m _ _ _ _ _ _ _ _ _ _ _ _ _ _ _ _ _ _ _ _ _ _ _ _ _ e25 _ _ _ _ _ _ _ _ _ _ _ _ _ _ _ _ _ _ _ _ _ _ _ slot.InplaceAnd = sym e25
numbers_read read m _ _ _ _ _ _ _ _ _ _ _ _ _ _ _ _ _ _ _ _ _ _ _ _ _ _ e26 _ _ _ _ _ _ _ _ _ _ _ _ _ _ _ _ _ _ _ _ _ _ slot.Xor = sym e26
numbers_read read m _ _ _ _ _ _ _ _ _ _ _ _ _ _ _ _ _ _ _ _ _ _ _ _ _ _ _ e27 _ _ _ _ _ _ _ _ _ _ _ _ _ _ _ _ _ _ _ _ _ slot.RightXor = sym e27
numbers_read read m _ _ _ _ _ _ _ _ _ _ _ _ _ _ _ _ _ _ _ _ _ _ _ _ _ _ _ _ e28 _ _ _ _ _ _ _ _ _ _ _ _ _ _ _ _ _ _ _ _ slot.InplaceXor = sym e28
numbers_read read m _ _ _ _ _ _ _ _ _ _ _ _ _ _ _ _ _ _ _ _ _ _ _ _ _ _ _ _ _ e29 _ _ _ _ _ _ _ _ _ _ _ _ _ _ _ _ _ _ _ slot.Or = sym e29
numbers_read read m _ _ _ _ _ _ _ _ _ _ _ _ _ _ _ _ _ _ _ _ _ _ _ _ _ _ _ _ _ _ e30 _ _ _ _ _ _ _ _ _ _ _ _ _ _ _ _ _ _ slot.RightOr = sym e30
numbers_read read m _ _ _ _ _ _ _ _ _ _ _ _ _ _ _ _ _ _ _ _ _ _ _ _ _ _ _ _ _ _ _ e31 _ _ _ _ _ _ _ _ _ _ _ _ _ _ _ _ _ slot.InplaceOr = sym e31
numbers_read read m _ _ _ _ _ _ _ _ _ _ _ _ _ _ _ _ _ _ _ _ _ _ _ _ _ _ _ _ _ _ _ _ e32 _ _ _ _ _ _ _ _ _ _ _ _ _ _ _ _ slot.FloorDivide = sym e32
numbers_read read m _ _ _ _ _ _ _ _ _ _ _ _ _ _ _ _ _ _ _ _ _ _ _ _ _ _ _ _ _ _ _ _ _ e33 _ _ _ _ _ _ _ _ _ _ _ _ _ _ _ slot.RightFloorDivide = sym e33
numbers_read read m _ _ _ _ _ _ _ _ _ _ _ _ _ _ _ _ _ _ _ _ _ _ _ _ _ _ _ _ _ _ _ _ _ _ e34 _ _ _ _ _ _ _ _ _ _ _ _ _ _ slot.InplaceFloorDivide = sym e34
numbers_read read m _ _ _ _ _ _ _ _ _ _ _ _ _ _ _ _ _ _ _ _ _ _ _ _ _ _ _ _ _ _ _ _ _ _ _ e35 _ _ _ _ _ _ _ _ _ _ _ _ _ slot.TrueDivide = sym e35
numbers_read read m _ _ _ _ _ _ _ _ _ _ _ _ _ _ _ _ _ _ _ _ _ _ _ _ _ _ _ _ _ _ _ _ _ _ _ _ e36 _ _ _ _ _ _ _ _ _ _ _ _ slot.RightTrueDivide = sym e36
numbers_read read m _ _ _ _ _ _ _ _ _ _ _ _ _ _ _ _ _ _ _ _ _ _ _ _ _ _ _ _ _ _ _ _ _ _ _ _ _ e37 _ _ _ _ _ _ _ _ _ _ _ slot.InplaceTrueDivide = sym e37
numbers_read read m _ _ _ _ _ _ _ _ _ _ _ _ _ _ _ _ _ _ _ _ _ _ _ _ _ _ _ _ _ _ _ _ _ _ _ _ _ _ e38 _ _ _ _ _ _ _ _ _ _ slot.MatrixMultiply = sym e38
numbers_read read m _ _ _ _ _ _ _ _ _ _ _ _ _ _ _ _ _ _ _ _ _ _ _ _ _ _ _ _ _ _ _ _ _ _ _ _ _ _ _ e39 _ _ _ _ _ _ _ _ _ slot.RightMatrixMultiply = sym e39
numbers_read read m _ _ _ _ _ _ _ _ _ _ _ _ _ _ _ _ _ _ _ _ _ _ _ _ _ _ _ _ _ _ _ _ _ _ _ _ _ _ _ _ e40 _ _ _ _ _ _ _ _ slot.InplaceMatrixMultiply = sym e40
numbers_read read m _ _ _ _ _ _ _ _ _ _ _ _ _ _ _ _ _ _ _ _ _ _ _ _ _ _ _ _ _ _ _ _ _ _ _ _ _ _ _ _ _ e41 _ _ _ _ _ _ _ slot.Int = sym e41
numbers_read read m _ _ _ _ _ _ _ _ _ _ _ _ _ _ _ _ _ _ _ _ _ _ _ _ _ _ _ _ _ _ _ _ _ _ _ _ _ _ _ _ _ _ e42 _ _ _ _ _ _ slot.Index = sym e42
numbers_read read m _ _ _ _ _ _ _ _ _ _ _ _ _ _ _ _ _ _ _ _ _ _ _ _ _ _ _ _ _ _ _ _ _ _ _ _ _ _ _ _ _ _ _ e43 _ _ _ _ _ slot.Float = sym e43
numbers_read read m _ _ _ _ _ _ _ _ _ _ _ _ _ _ _ _ _ _ _ _ _ _ _ _ _ _ _ _ _ _ _ _ _ _ _ _ _ _ _ _ _ _ _ _ e44 _ _ _ _ slot.Negative = sym e44
numbers_read read m _ _ _ _ _ _ _ _ _ _ _ _ _ _ _ _ _ _ _ _ _ _ _ _ _ _ _ _ _ _ _ _ _ _ _ _ _ _ _ _ _ _ _ _ _ e45 _ _ _ slot.Positive = sym e45
numbers_read read m _ _ _ _ _ _ _ _ _ _ _ _ _ _ _ _ _ _ _ _ _ _ _ _ _ _ _ _ _ _ _ _ _ _ _ _ _ _ _ _ _ _ _ _ _ _ e46 _ _ slot.Absolute = sym e46
numbers_read read m _ _ _ _ _ _ _ _ _ _ _ _ _ _ _ _ _ _ _ _ _ _ _ _ _ _ _ _ _ _ _ _ _ _ _ _ _ _ _ _ _ _ _ _ _ _ _ e47 _ slot.Invert = sym e47
numbers_read read m _ _ _ _ _ _ _ _ _ _ _ _ _ _ _ _ _ _ _ _ _ _ _ _ _ _ _ _ _ _ _ _ _ _ _ _ _ _ _ _ _ _ _ _ _ _ _ _ e48 slot.Boolean = sym e48
numbers_read read m _ _ _ _ _ _ _ _ _ _ _ _ _ _ _ _ _ _ _ _ _ _ _ _ _ _ _ _ _ _ _ _ _ _ _ _ _ _ _ _ _ _ _ _ _ _ _ _ _ _ = refl

-- the entries that make a view one of a sequence or of a mapping
pub item_shown : (w : PlainWorld) (o : PyObjectRef) (m : PySequenceMethods) → HasSequenceSlots w o m → m.item ≡ slot_at w o slot.SeqItem
unfolding sequence_entry sort_of slot_sorts place_of
item_shown w o m h = h slot.SeqItem

pub subscript_shown : (w : PlainWorld) (o : PyObjectRef) (m : PyMappingMethods) → HasMappingSlots w o m → m.subscript ≡ slot_at w o slot.MapSubscript
unfolding mapping_entry sort_of slot_sorts place_of
subscript_shown w o m h = h slot.MapSubscript
