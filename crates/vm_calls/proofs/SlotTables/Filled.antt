-- What tables have in each slot: nothing in an empty one, and what fills it in one that is made from methods.
use Rattle.vm_calls.proofs.Below.{Option, Some, None, refl, option_or, SlotId, Add, Hash, Call, Repr, Getattro, Setattro, Richcompare, Iter, Iternext, DescrGet, DescrSet, Init, New, Del, operators, PyNumberMethods, PyNumberSlots, PyTypeSlots, number_entry, method_entry, given_by, sequence_entry, mapping_entry, type_entry}
use Rattle.std.proofs.Common.{◌≡◌}

pub no_methods : (s : SlotId) → method_entry (record { add = None; inplace_add = None; subtract = None; inplace_subtract = None; multiply = None; inplace_multiply = None; remainder = None; inplace_remainder = None; divmod = None; power = None; inplace_power = None; lshift = None; inplace_lshift = None; rshift = None; inplace_rshift = None; and = None; inplace_and = None; xor = None; inplace_xor = None; or = None; inplace_or = None; floor_divide = None; inplace_floor_divide = None; true_divide = None; inplace_true_divide = None; matrix_multiply = None; inplace_matrix_multiply = None; int = None; index = None; float = None; negative = None; positive = None; absolute = None; invert = None; boolean = None }) s ≡ None
unfolding method_entry
no_methods Add = refl
no_methods _ = refl

pub no_sequence : (s : SlotId) → sequence_entry (record { length = None; item = None; ass_item = None; contains = None; concat = None; repeat = None; inplace_concat = None; inplace_repeat = None }) s ≡ None
unfolding sequence_entry
no_sequence Add = refl
no_sequence _ = refl

pub no_mapping : (s : SlotId) → mapping_entry (record { length = None; subscript = None; ass_subscript = None }) s ≡ None
unfolding mapping_entry
no_mapping Add = refl
no_mapping _ = refl

-- the slots that are made from methods
abbrev slots_of : PyNumberMethods → PyNumberSlots
slots_of m = record { add = m.add; right_add = m.add; inplace_add = m.inplace_add; subtract = m.subtract; right_subtract = m.subtract; inplace_subtract = m.inplace_subtract; multiply = m.multiply; right_multiply = m.multiply; inplace_multiply = m.inplace_multiply; remainder = m.remainder; right_remainder = m.remainder; inplace_remainder = m.inplace_remainder; divmod = m.divmod; right_divmod = m.divmod; power = m.power; right_power = m.power; inplace_power = m.inplace_power; lshift = m.lshift; right_lshift = m.lshift; inplace_lshift = m.inplace_lshift; rshift = m.rshift; right_rshift = m.rshift; inplace_rshift = m.inplace_rshift; and = m.and; right_and = m.and; inplace_and = m.inplace_and; xor = m.xor; right_xor = m.xor; inplace_xor = m.inplace_xor; or = m.or; right_or = m.or; inplace_or = m.inplace_or; floor_divide = m.floor_divide; right_floor_divide = m.floor_divide; inplace_floor_divide = m.inplace_floor_divide; true_divide = m.true_divide; right_true_divide = m.true_divide; inplace_true_divide = m.inplace_true_divide; matrix_multiply = m.matrix_multiply; right_matrix_multiply = m.matrix_multiply; inplace_matrix_multiply = m.inplace_matrix_multiply; int = m.int; index = m.index; float = m.float; negative = m.negative; positive = m.positive; absolute = m.absolute; invert = m.invert; boolean = m.boolean }

pub filled : (m : PyNumberMethods) (s : SlotId) → number_entry (slots_of m) s ≡ method_entry m (given_by s)
unfolding number_entry method_entry given_by operators
filled m Add = refl
filled m _ = refl

none-of : {A : Type 0} (a b c : Option A) → a ≡ None → b ≡ None → c ≡ None → option_or a (option_or b c) ≡ None
none-of None None c p q r = r
none-of (Some x) b c p q r = cc
none-of None (Some y) c p q r = cc

-- where all tables are empty, and nothing else is filled, no slot is
pub no_slots : (t : PyTypeSlots) → ((s : SlotId) → number_entry t.as_number s ≡ None) → ((s : SlotId) → sequence_entry t.as_sequence s ≡ None) → ((s : SlotId) → mapping_entry t.as_mapping s ≡ None) → t.hash ≡ None → t.call ≡ None → t.repr ≡ None → t.getattro ≡ None → t.setattro ≡ None → t.richcompare ≡ None → t.iter ≡ None → t.iternext ≡ None → t.descr_get ≡ None → t.descr_set ≡ None → t.init ≡ None → t.new ≡ None → t.del ≡ None → (s : SlotId) → type_entry t s ≡ None
unfolding type_entry
no_slots t n q m e0 e1 e2 e3 e4 e5 e6 e7 e8 e9 e10 e11 e12 Hash = e0
no_slots t n q m e0 e1 e2 e3 e4 e5 e6 e7 e8 e9 e10 e11 e12 Call = e1
no_slots t n q m e0 e1 e2 e3 e4 e5 e6 e7 e8 e9 e10 e11 e12 Repr = e2
no_slots t n q m e0 e1 e2 e3 e4 e5 e6 e7 e8 e9 e10 e11 e12 Getattro = e3
no_slots t n q m e0 e1 e2 e3 e4 e5 e6 e7 e8 e9 e10 e11 e12 Setattro = e4
no_slots t n q m e0 e1 e2 e3 e4 e5 e6 e7 e8 e9 e10 e11 e12 Richcompare = e5
no_slots t n q m e0 e1 e2 e3 e4 e5 e6 e7 e8 e9 e10 e11 e12 Iter = e6
no_slots t n q m e0 e1 e2 e3 e4 e5 e6 e7 e8 e9 e10 e11 e12 Iternext = e7
no_slots t n q m e0 e1 e2 e3 e4 e5 e6 e7 e8 e9 e10 e11 e12 DescrGet = e8
no_slots t n q m e0 e1 e2 e3 e4 e5 e6 e7 e8 e9 e10 e11 e12 DescrSet = e9
no_slots t n q m e0 e1 e2 e3 e4 e5 e6 e7 e8 e9 e10 e11 e12 Init = e10
no_slots t n q m e0 e1 e2 e3 e4 e5 e6 e7 e8 e9 e10 e11 e12 New = e11
no_slots t n q m e0 e1 e2 e3 e4 e5 e6 e7 e8 e9 e10 e11 e12 Del = e12
no_slots t n q m e0 e1 e2 e3 e4 e5 e6 e7 e8 e9 e10 e11 e12 s = none-of _ _ _ (n s) (q s) (m s)
