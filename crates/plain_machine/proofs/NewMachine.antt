-- The world of a new machine, by computation: how many nodes it has, and what some slots of its classes are.
use Rattle.plain_machine.proofs.Below.{ℕ, length, codes, Option, Some, None, refl, SlotId, Add, RightAdd, Hash, Call, Repr, Richcompare, Init, New, DescrGet, DescrSet, OfObject, OfType, OfInt, OfCallable, OfDescriptor, Compare, SlotEntry, Native, Unhashable, name_of, base_of, flags_of, all_built_ins, built_in_names, built_in_bases, built_in_flags, place_of as slot_place, all_slots, slot_sorts, sort_of, slot_names, names_of, slot_fillings, filling_of, known_text, known_texts, number_of, own_attrs, linear, least_order, all_arrangements, arrangements, found, slot, natives_of, ref, is_text, text_keys, with_attr, start}
use Rattle.std.proofs.Common.{◌≡◌}
use Rattle.py_node.specs.declared.entry.ObjectNative.TheVariants as object
use Rattle.py_node.specs.declared.entry.TypeNative.TheVariants as type
use Rattle.py_node.specs.declared.entry.IntNative.TheVariants as int
use Rattle.py_node.specs.declared.entry.CallableNative.TheVariants as callable
use Rattle.py_node.specs.declared.entry.DescriptorNative.TheVariants as descriptor
use Rattle.py_node.specs.declared.entry.CompareNative.TheVariants.{All}
use Rattle.py_node.specs.declared.built_in.BuiltIn.TheVariants as built_in
use Rattle.py_node.specs.BuiltIns.{place_of}

-- 23 classes, 4 fixed objects and 264 attributes
nodes-counted : length start.nodes ≡ 291
unfolding start with_attr own_attrs known_text known_texts number_of all_built_ins built_in_names built_in_bases built_in_flags place_of flags_of
nodes-counted = refl

found-by-type : found is_text start.classes 1 (codes "__init_subclass__") ≡ Some (ref 44)
unfolding linear least_order all_arrangements arrangements start with_attr own_attrs known_text known_texts number_of all_built_ins built_in_names built_in_bases built_in_flags place_of name_of base_of flags_of
found-by-type = refl

abbrev slot_in : ℕ → SlotId → Option SlotEntry
slot_in c s = slot text_keys natives_of start.classes c s

slots-of-type : (slot_in 1 Call ≡ Some (Native (OfType type.Call))) × (slot_in 1 New ≡ Some (Native (OfType type.New))) × (slot_in 1 Repr ≡ Some (Native (OfType type.Repr))) × (slot_in 1 Init ≡ Some (Native (OfObject object.Init))) × (slot_in 1 Hash ≡ Some (Native (OfObject object.Hash)))
unfolding linear least_order all_arrangements arrangements start with_attr own_attrs known_text known_texts number_of all_built_ins built_in_names built_in_bases built_in_flags place_of name_of base_of flags_of natives_of sort_of slot_sorts slot_place all_slots slot_names names_of slot_fillings filling_of
slots-of-type = (refl, refl, refl, refl, refl)

slots-of-others : (slot_in 0 Call ≡ None) × (slot_in 5 Add ≡ Some (Native (OfInt int.Add))) × (slot_in 5 RightAdd ≡ Some (Native (OfInt int.Add))) × (slot_in 10 DescrGet ≡ Some (Native (OfCallable callable.GetFunction))) × (slot_in 15 DescrSet ≡ Some (Native (OfDescriptor descriptor.GetSetSet))) × (slot_in 8 Hash ≡ Some Unhashable) × (slot_in 6 Add ≡ None) × (slot_in 5 Richcompare ≡ Some (Native (Compare built_in.Int All)))
unfolding linear least_order all_arrangements arrangements start with_attr own_attrs known_text known_texts number_of all_built_ins built_in_names built_in_bases built_in_flags place_of name_of base_of flags_of natives_of sort_of slot_sorts slot_place all_slots slot_names names_of slot_fillings filling_of
slots-of-others = (refl, refl, refl, refl, refl, refl, refl, refl)
