-- The words of crates below that the definitions and contracts of this crate are written in.
pub use Rattle.class_model.specs.BuiltIn.{compare_native, entry_among, entry_of, fills, is_among, is_number, is_sequence, natives_of, new_native}
pub use Rattle.class_model.specs.Chain.{IsChain, base_chain, chain_from}
pub use Rattle.class_model.specs.Change.{breaks_precedence, caused, failing, is_blamed, order_cause, stands_past, with_bases, with_class, with_class_attr, with_class_name, without_class_attr}
pub use Rattle.class_model.specs.Class.{Class, Classes, IsLeastLine, along, bases_of, class_at, first_along, found, found_past, has_flag, is_class, is_heap, is_sub, lin, or_else, own_of, past_first, subclasses}
pub use Rattle.class_model.specs.Collect.{all_attributes, attributes_along, with_values}
pub use Rattle.class_model.specs.Dict.{alike, any_has_dict, gives_dict, has_dict, has_its_dict, heap_class, is_dict, keeps_dict, says_dict, slot_members, slots_bring}
pub use Rattle.class_model.specs.Failing.{BreaksPrecedence, FailsAsSaid, PassesAsSaid}
pub use Rattle.class_model.specs.Layout.{base, best_of, built_ins, is_empty, is_place, layout, layout_along, member_count, members_in, place_along, place_at, place_count, solid}
pub use Rattle.class_model.specs.Name.{dot, last_part, short_name}
pub use Rattle.class_model.specs.Numbers.{is_ascending, limit, numbers_of}
pub use Rattle.class_model.specs.Offset.{offset_of}
pub use Rattle.class_model.specs.Order.{BeginsWith, Distinct, Includes, IsLeastOrder, IsOrder, Subsequence, all_some, has, is_distinct, is_lexicographic, least_order, ranks, unique, without}
pub use Rattle.class_model.specs.Slot.{Keys, candidates_of, entries, entry, first_with, given_entry, goes_first, has_table, heap_entry, in_turn, is_by_itself, is_heap_at, is_name_of, is_none, is_other_node, is_overridden, read_along, slot, without_same, wrapped}
pub use Rattle.class_model.specs.Sound.{AreSound}
pub use Rattle.class_model.specs.Start.{built_class, built_in_classes}
pub use Rattle.py_node.specs.Attributes.{AreNamesDistinct, is_same_name, value_of, with_value, without_key}
pub use Rattle.py_node.specs.BuiltIns.{all_built_ins, base_type, fixed_node_count, fixed_none, heap_flags, heap_type}
pub use Rattle.py_node.specs.Known.{known_texts, number_of}
pub use Rattle.py_node.specs.OwnAttrs.{own_attrs}
pub use Rattle.py_node.specs.Slots.{all_slots, filling_of, names_of, place_of, slot_count, sort_of}
pub use Rattle.py_node.specs.Texts.{AreDistinct}
pub use Rattle.py_node.specs.Tree.{Text}
pub use Rattle.py_node.specs.declared.attr.Attr.{Attr}
pub use Rattle.py_node.specs.declared.attr.Attr.TheVariants.{NoHash}
pub use Rattle.py_node.specs.declared.built_in.BuiltIn.{BuiltIn}
pub use Rattle.py_node.specs.declared.entry.SlotEntry.{SlotEntry}
pub use Rattle.py_node.specs.declared.entry.SlotId.{SlotId}
pub use Rattle.py_node.specs.declared.flags.PyTypeFlags.{PyTypeFlags}
pub use Rattle.py_node.specs.declared.known.Known.{Known}
pub use Rattle.py_node.specs.declared.raised.Cause.{Cause}
pub use Rattle.py_node.specs.declared.raised.Cause.TheVariants.{DuplicateBase, EmptyBases, ImmutableType, InheritanceCycle, LayoutConflict, LayoutDiffers, LocalPrecedence, MroConflict, NotBaseType}
pub use Rattle.py_node.specs.declared.refs.PyObjectRef.{PyObjectRef}
pub use Rattle.py_node.specs.declared.refs.PyStrInterned.{PyStrInterned}
pub use Rattle.py_node.specs.declared.refs.PyTypeRef.{PyTypeRef}
pub use Rattle.py_node.specs.declared.slots.Sort.{Sort}
pub use Rattle.py_node.specs.declared.slots.Sort.TheVariants.{ByMapping, BySequence}
pub use Rattle.std.specs.Borrow.{Bor}
pub use Rattle.std.specs.Global.{Vec}
pub use Rattle.std.specs.Int.RustNames.{bit_and, bit_or}
pub use Rattle.std.specs.Iterator.{YieldsFirstBy, item_count}
pub use Rattle.std.specs.List.{All, AllZip, flat_map, list_any, sum_by}
pub use Rattle.std.specs.Map.{lookup}
pub use Rattle.std.specs.Option.{option_or}
pub use Rattle.std.specs.Prelude.{Bool, Err, IfErr, IfNone, IfOk, IfSome, IsSome, IsTrue, List, None, Ok, OnErr, OnOk, Option, Result, Some, [], cond, drop, eqb, false, filter, fold, is_some, leb, length, map, nat_lt, not, option_and_then, option_copied, option_map, slice_get, slice_index_or, slice_set, string_bytes, suc, take, true, zero, ℕ}
