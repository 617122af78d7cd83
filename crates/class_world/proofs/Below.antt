-- The words that the lemmas of this crate are written in: its own definitions, and words and lemmas of crates below.
pub use Rattle.class_model.proofs.Agreed.{bind-agrees}
pub use Rattle.class_model.proofs.Changed.{lin-attr, lin-push}
pub use Rattle.class_model.proofs.Dict.{alike-same, any_has_dict-agrees, has-gives}
pub use Rattle.class_model.proofs.Kept.{is_class-kept, layout-agrees, lin-kept, member_count-kept}
pub use Rattle.class_model.proofs.Layouts.{first-built_in}
pub use Rattle.class_model.proofs.Names.{place-first}
pub use Rattle.class_model.proofs.Numbers.{at-before, at-changed, at-last, old-or-last, some-of}
pub use Rattle.class_model.proofs.PlaceOffsets.{along-there, layout-same, offset-alike, offset-anywhere, offset-apart, offset-below, offset-inherited, offset-nowhere, place-offset, place_count-alike}
pub use Rattle.class_model.proofs.Renamed.{at-renamed, base-renamed, bases_of-renamed, best_of-renamed, candidates_of-renamed, entry-renamed, found-renamed, found_past-renamed, goes_first-renamed, is_place-renamed, is_sub-renamed, layout-renamed, lin-renamed, own_of-renamed, slot-renamed, solid-renamed}
pub use Rattle.class_model.proofs.Rule.{lin-classes}
pub use Rattle.class_model.proofs.Solid.{is_solid-push}
pub use Rattle.class_model.proofs.Sound.{has_dict-renamed, sound-renamed}
pub use Rattle.class_model.specs.Change.{blamed_along, caused, failing, order_cause, with_bases, with_changed, with_class, with_class_attr, with_class_name, without_class_attr}
pub use Rattle.class_model.specs.Class.{Class, Classes, along, bases_of, class_at, found, found_past, has_flag, is_class, is_sub, lin, or_else, own_of, past_first, rekeyed, renamed}
pub use Rattle.class_model.specs.Collect.{all_attributes, attributes_along, attrs_of, with_values}
pub use Rattle.class_model.specs.Dict.{alike, any_has_dict, dict_with, gives_dict, has_dict, heap_class, is_dict, keeps_dict, says_dict, slot_members, slots_bring}
pub use Rattle.class_model.specs.Layout.{base, best_of, built_ins, first_place, is_empty, is_place, layout, layout_along, member_count, members_in, place_along, place_at, place_count, solid}
pub use Rattle.class_model.specs.Order.{Includes, all_some, is_distinct}
unfoldable pub use Rattle.class_model.specs.Order.{all_arrangements, arrangements, least_order, linear}
pub use Rattle.class_model.specs.Slot.{candidates_of, entry, first_with, goes_first, is_heap_at, slot}
pub use Rattle.class_model.specs.Sound.{AreSound}
pub use Rattle.class_model.specs.Start.{built_class, built_in_classes}
pub use Rattle.class_table.proofs.ClassLog.Logged.{keeps-itself, keeps-on, logged-first}
pub use Rattle.class_table.proofs.KeptLayouts.{layout-passed, layout-solid}
pub use Rattle.class_table.proofs.Pushed.{each-there}
pub use Rattle.class_table.proofs.Renames.{layout-alike, refused-alike}
pub use Rattle.class_table.proofs.StartParts.{split}
pub use Rattle.class_table.specs.ClassLog.Logged.{IsGiven, IsGivenTo, IsLogged}
pub use Rattle.class_table.specs.Rebase.{IsToldFirst, Refusal, any_derives, is_same, refused_change, refused_class, refused_rebase, refused_shape, told, unless}
pub use Rattle.class_table.specs.Refused.{AreThere, WithMemory, is_base_at, most_derived, refusal, refused_attr, refused_bases, refused_layout, refused_order}
pub use Rattle.class_table.specs.Start.{Numbered, number_past, value_number, with_all_own, with_each_own}
unfoldable pub use Rattle.class_table.specs.Start.{start_classes, with_own}
pub use Rattle.class_table.specs.declared.fault.ClassFault.{ClassFault}
pub use Rattle.class_table.specs.declared.fault.ClassFault.TheVariants.{OutOfMemory, Refused, RefusedAt}
pub use Rattle.class_world.specs.Added.{AreEmpty, HasNoEntries, IsEmptyDict, number_of_object, with_object}
pub use Rattle.class_world.specs.Below.{AreDistinct, Assign, Attr, BuiltIn, Cause, Change, Delete, ExprRef, Form, IsSome, IsTrue, Keeps, Known, Node, Payload, PlainDict, PyDictKey, PyObjectRef, PyProperty, PySetterValue, PyStrInterned, PyTypeRef, Started, Step, Vec, dict_pushed, dict_put, dict_removed, empty_dict, filled, fixed_node_count, fixed_none, heap_flags, heap_type, is_none, is_same_key, is_some, known_texts, limit, ltb, method_descriptor, nat_lt, natives_of, none, number_of, numbers, offset_of, option_and_then, option_map, option_or, own_attrs, pos, position, put_at, refused_single, running, says_so, slice_get, slice_set, slot_names, static_flags, string_bytes, table_keys, the_bool, the_dict, the_none_type, the_not_implemented_type, the_str, two_of, value_at, value_at_place, with_value_at_place}
pub use Rattle.class_world.specs.Bound.{bound_scopes, bound_vars, last_function, last_value}
pub use Rattle.class_world.specs.Claims.{Leaves, LeavesOpen, left_open, of_setter, of_step}
pub use Rattle.class_world.specs.Defined.{defined_node, defined_payload, or_class_ref, with_parts}
pub use Rattle.class_world.specs.Fixed.{number_of_fixed}
pub use Rattle.class_world.specs.Held.{Held}
pub use Rattle.class_world.specs.Keyed.{HasOther, IsDict, dict_at, dict_in, entries_at, entries_of, held_dict, held_entries, held_text, is_held_key, is_text_at, is_text_of, of_entries, of_keyed, of_pairs}
pub use Rattle.class_world.specs.Listed.{HasItems, HasOtherItems, items_in, items_of}
pub use Rattle.class_world.specs.NewHeap.{HasClassNode, of_slots, qualified, refused_heap, refused_name, slot_texts}
pub use Rattle.class_world.specs.Reading.{IsReadable, Reading, Reads, bindings, datum, form_tree, node_of, scope_of, setter_value, spelled, stored_entries}
unfoldable pub use Rattle.class_world.specs.Reading.{places_of, plain}
pub use Rattle.class_world.specs.Sound.{AllHold, AreExpressions, AreFilled, AreMembers, AreNames, AreNodes, AreRead, CanBeKeys, Claim, GetsDict, Grows, HasFlags, HasForm, HasParams, HasValues, Holding, IsClass, IsExpression, IsName, IsNode, IsOf, IsOffset, IsRead, KeysDiffer, KeysRead, Lasts, NamesKey, OfStatic, Sound, SoundWith, Standing, StandsThere, class_in, class_ref_at, flags_at, has_value, held_class, held_key, held_params, home_at, home_of, is_lasting, is_marked_heap, key_in, of_binding, of_class, of_class_ref, of_dict, of_dict_ref, of_each, of_form, of_name_ref, of_node, of_node_ref, of_option, of_optional, of_payload, of_property, of_scope, of_start, params_in, read_key, with_class_ref, with_dict_ref, with_members, with_payload}
unfoldable pub use Rattle.class_world.specs.Sound.{Holds}
pub use Rattle.class_world.specs.StartNodes.{class_node, own_node, own_payload, plain_node, start_nodes, type_ref, with_own_nodes}
unfoldable pub use Rattle.class_world.specs.StartNodes.{opening_nodes, with_own_node}
pub use Rattle.class_world.specs.Tables.{AreBelow, IsBelow}
pub use Rattle.class_world.specs.declared.built_ins.Fixed.{Fixed}
pub use Rattle.class_world.specs.declared.scope.Scope.{Scope}
pub use Rattle.class_world.specs.declared.world.World.{World}
pub use Rattle.plain_machine.proofs.NearestByLayout.{nearest-by_layout}
pub use Rattle.plain_machine.proofs.Offsets.{offset-agrees, offset-kept, offset-push}
pub use Rattle.plain_machine.specs.Change.{SetBases, SetName, apply, with_object_changed, with_place, without_own_attr}
pub use Rattle.plain_machine.specs.Dicts.{Entries, entries_from, entries_in, is_key, is_like, is_one_key, is_text_datum, put_under, set_under, value_in, with_entries, with_entry, with_value_for, with_value_in, without_value_for, without_value_in}
pub use Rattle.plain_machine.specs.Objects.{class_number, defined_by, derives, is_instance, or_class, with_datum, with_datum_in, with_definer}
pub use Rattle.plain_machine.specs.Plain.{AClass, ADict, AFunction, AList, AProperty, AText, Bindings, Datum, PlainWorld, no_members}
pub use Rattle.plain_machine.specs.Sound.{AreApart, AreKeys, IsSound, IsSoundNode, IsSoundScope, Key, NumberKey, TextKey, all_optional, classes_in, held_by, holds_as, home, is_below, is_offset, key_at, key_of, keys_in, nodes_in, offsets_in, optional, optional_class, read_offset, set_offset, super_object, super_start}
pub use Rattle.plain_machine.specs.Start.{attr_class, attr_datum, bare, fixed_nodes, is_made, with_attrs}
unfoldable pub use Rattle.plain_machine.specs.Start.{start, with_attr}
pub use Rattle.plain_machine.specs.World.{bound, bound_last, datum_at, in_last, is_text, next_node, node_at, or_else_var, or_empty, push_node, ref, text_keys, variable, with_binding, with_new_class, with_node, with_node_changed, with_own_attr, with_scope, without_scope}
pub use Rattle.py_node.proofs.KnownNames.{below, known-count}
pub use Rattle.py_node.specs.Attributes.{AreNamesDistinct, is_same_name, value_of, with_value, without_key}
unfoldable pub use Rattle.py_node.specs.BuiltIns.{all_built_ins, base_of, built_in_bases, built_in_flags, flags_of, place_of}
unfoldable pub use Rattle.py_node.specs.Known.{known_text}
pub use Rattle.py_node.specs.Tree.{LNone, TConst, TDict, TList, TOp, TSeq, TTuple, Text, Tree, keyed_of, trees_of}
pub use Rattle.py_node.specs.declared.built_in.BuiltIn.TheVariants.{Dict, Function, Str, TypeType}
pub use Rattle.py_node.specs.declared.entry.SlotId.{SlotId}
pub use Rattle.py_node.specs.declared.members.MemberPlace.{MemberPlace}
pub use Rattle.py_node.specs.declared.payload.Payload.TheVariants.{Number, Object}
pub use Rattle.py_node.specs.declared.raised.Cause.TheVariants.{DuplicateBase, EmptyBases, ImmutableType, InheritanceCycle, LayoutDiffers, NotBaseType}
pub use Rattle.std.proofs.Common.{Bool, Err, IfOk, IfSome, List, None, Ok, OnErr, OnOk, Option, Result, Some, [], ap, append-nil, arith, cond, drop, eqb, false, filter, fold, get_or, inl, inr, length, length-append, lit<, map, min, not, refl, replicate, set, slice_index_or, subst, suc, sym, take, take_all, true, true≢false, zero, ℕ, ◌∙◌}
pub use Rattle.std.proofs.Math.ListN.{length-replicate}
pub use Rattle.std.proofs.lemmas.Bool.{eq-eqb, eqb-false, eqb-true, lt-ltb, ltb-true}
pub use Rattle.std.proofs.lemmas.Bool.Decides.{Decides-int_eq}
pub use Rattle.std.proofs.lemmas.Grind.{and-not_self}
pub use Rattle.std.proofs.lemmas.Iterator.Adapters.{position_from-zero}
pub use Rattle.std.proofs.lemmas.List.{length-map}
pub use Rattle.std.proofs.lemmas.List.Elements.{All-append, All-drop, All-filter, All-set, All-take}
pub use Rattle.std.proofs.lemmas.List.Sums.{fold_more}
pub use Rattle.std.proofs.lemmas.Nat.{and_assoc, and_or_apart}
pub use Rattle.std.proofs.lemmas.Option.{slice_get-get_or, slice_get_within}
pub use Rattle.std.proofs.lemmas.Slice.Eq.{bytes_eq-Decides}
pub use Rattle.std.specs.Int.Bits.{and_self}
pub use Rattle.std.specs.Int.RustNames.{bit_and, bit_or}
pub use Rattle.std.specs.List.{All, AllByRecursion, list_any, position_from, remove, splice}
unfoldable pub use Rattle.std.specs.List.{IsDistinct}
pub use Rattle.std.specs.Map.{keys_of}
