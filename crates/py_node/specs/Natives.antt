-- When two natives, or two entries of slots, are the same.
use Rattle.py_node.specs.Below.{Bool, false, true}
use Rattle.std.specs.Prelude.{◌&&◌}
use denote.Enum.Bare.{sameb}
use Rattle.py_node.specs.contracts.entry.ObjectNative.{the_type as object_type}
use Rattle.py_node.specs.contracts.entry.TypeNative.{the_type as type_type}
use Rattle.py_node.specs.contracts.entry.IntNative.{the_type as int_type}
use Rattle.py_node.specs.contracts.entry.CallableNative.{the_type as callable_type}
use Rattle.py_node.specs.contracts.entry.FixedNative.{the_type as fixed_type}
use Rattle.py_node.specs.contracts.entry.NumberNative.{the_type as number_type}
use Rattle.py_node.specs.contracts.entry.ArithmeticNative.{the_type as arithmetic_type}
use Rattle.py_node.specs.contracts.entry.BitNative.{the_type as bits_type}
use Rattle.py_node.specs.contracts.entry.StrNative.{the_type as str_type}
use Rattle.py_node.specs.contracts.entry.TupleNative.{the_type as tuple_type}
use Rattle.py_node.specs.contracts.entry.ListNative.{the_type as list_type}
use Rattle.py_node.specs.contracts.entry.DictNative.{the_type as dict_type}
use Rattle.py_node.specs.contracts.entry.DescriptorNative.{the_type as descriptor_type}
use Rattle.py_node.specs.contracts.entry.PropertyNative.{the_type as property_native_type}
use Rattle.py_node.specs.contracts.entry.WrapperNative.{the_type as wrapper_type}
use Rattle.py_node.specs.contracts.entry.SuperNative.{the_type as super_native_type}
use Rattle.py_node.specs.contracts.entry.IteratorNative.{the_type as iterator_type}
use Rattle.py_node.specs.contracts.entry.Property.{the_type as property_type}
use Rattle.py_node.specs.contracts.entry.CompareNative.{the_type as compare_type}
use Rattle.py_node.specs.contracts.entry.Detail.{the_type as detail_type}
use Rattle.py_node.specs.contracts.built_in.BuiltIn.{the_type as built_in_type}
use Rattle.py_node.specs.declared.entry.NativeEntry.{NativeEntry}
use Rattle.py_node.specs.declared.entry.SlotEntry.{SlotEntry}
use Rattle.py_node.specs.declared.entry.NativeEntry.TheVariants as native
use Rattle.py_node.specs.declared.entry.SlotEntry.TheVariants.{Native, Wrapper}
use Rattle.py_node.specs.Slots.{is_slot}

-- whether two natives are one
unfoldable pub is_same_native : NativeEntry → NativeEntry → Bool
is_same_native (native.OfObject a) (native.OfObject b) = sameb object_type a b
is_same_native (native.OfType a) (native.OfType b) = sameb type_type a b
is_same_native (native.OfInt a) (native.OfInt b) = sameb int_type a b
is_same_native (native.OfCallable a) (native.OfCallable b) = sameb callable_type a b
is_same_native (native.OfFixed a) (native.OfFixed b) = sameb fixed_type a b
is_same_native (native.OfNumber a) (native.OfNumber b) = sameb number_type a b
is_same_native (native.OfArithmetic a) (native.OfArithmetic b) = sameb arithmetic_type a b
is_same_native (native.OfBits a) (native.OfBits b) = sameb bits_type a b
is_same_native (native.OfStr a) (native.OfStr b) = sameb str_type a b
is_same_native (native.OfTuple a) (native.OfTuple b) = sameb tuple_type a b
is_same_native (native.OfList a) (native.OfList b) = sameb list_type a b
is_same_native (native.OfDict a) (native.OfDict b) = sameb dict_type a b
is_same_native (native.OfDescriptor a) (native.OfDescriptor b) = sameb descriptor_type a b
is_same_native (native.OfProperty a) (native.OfProperty b) = sameb property_native_type a b
is_same_native (native.OfWrapper a) (native.OfWrapper b) = sameb wrapper_type a b
is_same_native (native.OfSuper a) (native.OfSuper b) = sameb super_native_type a b
is_same_native (native.OfIterator a) (native.OfIterator b) = sameb iterator_type a b
is_same_native (native.Getter a) (native.Getter b) = sameb property_type a b
is_same_native (native.Setter a) (native.Setter b) = sameb property_type a b
is_same_native (native.Compare c a) (native.Compare d b) = sameb built_in_type c d && sameb compare_type a b
is_same_native (native.GetterOf c a) (native.GetterOf d b) = sameb built_in_type c d && sameb detail_type a b
is_same_native (native.SetterOf c a) (native.SetterOf d b) = sameb built_in_type c d && sameb detail_type a b
is_same_native (native.NewOf c) (native.NewOf d) = sameb built_in_type c d
is_same_native native.NewWrapper native.NewWrapper = true
is_same_native _ _ = false

-- whether two entries are one: the same native, or wrappers of the same slot
unfoldable pub is_same_entry : SlotEntry → SlotEntry → Bool
is_same_entry (Native a) (Native b) = is_same_native a b
is_same_entry (Wrapper s) (Wrapper t) = is_slot s t
is_same_entry _ _ = false
