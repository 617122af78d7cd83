-- The words that the lemmas of this crate are written in: its own definitions, and words and lemmas of crates below.
pub use Rattle.class_model.proofs.Changed.{lin-push}
pub use Rattle.class_model.proofs.Dict.{has_dict-rebased}
pub use Rattle.class_model.proofs.Kept.{has_dict-kept, is_class-kept, is_place-agrees, is_place-kept, layout-agrees, layout_along-agrees, lin-kept, member_count-kept, sound-kept}
pub use Rattle.class_model.proofs.Made.{limit-within, place-made, solid-made, sound-made, there-made}
pub use Rattle.class_model.proofs.Numbers.{at-before, at-changed, at-last, old-or-last}
pub use Rattle.class_model.proofs.Rule.{lin-classes}
pub use Rattle.class_model.proofs.Solid.{is_solid-push}
unfoldable pub use Rattle.class_model.specs.BuiltIn.{natives_of}
pub use Rattle.class_model.specs.Change.{with_bases, with_changed, with_class}
pub use Rattle.class_model.specs.Class.{Class, Classes, class_at, found, is_along, is_class, lin, or_else}
pub use Rattle.class_model.specs.Layout.{built_ins, has_members, is_empty, is_place, is_solid, layout, layout_along, member_count, members_in, place_along, place_at}
pub use Rattle.class_model.specs.Numbers.{limit}
pub use Rattle.class_model.specs.Order.{Includes}
unfoldable pub use Rattle.class_model.specs.Order.{all_arrangements, arrangements, least_order, linear}
pub use Rattle.plain_machine.specs.Answer.{Follow, NoUnits, Out, Outcome, Over, asked, carry, step}
unfoldable pub use Rattle.plain_machine.specs.Answer.{follow, reach}
pub use Rattle.plain_machine.specs.Below.{AreSound, BuiltIn, DepthLimit, Native, PyObjectRef, SlotEntry, SlotId, Text, Unhashable, first_with, is_none, is_some, keys_of, nat_lt, option_and_then, option_map, says_dict, slice_get, slot}
pub use Rattle.plain_machine.specs.Change.{Bind, Change, MakeClass, MakeNode, SetBases, SetClass, SetDatum, SetDict, SetMember, SetName, SetOwn, apply, with_object_changed, with_place}
pub use Rattle.plain_machine.specs.Conditions.{Allowed, CanMakeClass, CanMakeNode, CanSetBases, CanSetClass, CanSetDatum, CanSetDict, CanSetMember}
pub use Rattle.plain_machine.specs.Known.{the_dict}
pub use Rattle.plain_machine.specs.Objects.{class_number, nearest_built_in}
pub use Rattle.plain_machine.specs.Plain.{ABuiltinMethod, AClass, AClassMethod, ADict, AFunction, AGetSet, AList, AMember, AMethod, AMethodDescriptor, ANativeFunction, ANumber, AProperty, ASlice, AStaticMethod, ASuper, AText, ATuple, AnIterator, AnObject, Answered, Asks, Bindings, Chose, Datum, Ended, Ends, Node, PlainTask, PlainWorld, Read, ReadNames, ReadObjects, Said, Saying, Scope, Told, no_members}
pub use Rattle.plain_machine.specs.Row.{Row, ask, choose, fault, read_names, read_objects, read_once}
pub use Rattle.plain_machine.specs.Sound.{AreApart, AreBound, AreKeys, AreOffsets, AreThere, IsSound, IsSoundNode, IsSoundScope, Key, classes_in, held_by, holds_as, home, is_below, is_offset, key_at, key_of, keys_in, nodes_in, offsets_in, params_in}
unfoldable pub use Rattle.plain_machine.specs.Start.{start, with_attr}
pub use Rattle.plain_machine.specs.World.{bound, bound_last, datum_at, has_dict, is_text, node_at, push_node, ref, text_keys, with_binding, with_node_changed}
pub use Rattle.py_node.specs.Attributes.{value_of, with_value, without_key}
unfoldable pub use Rattle.py_node.specs.BuiltIns.{all_built_ins, base_of, built_in_bases, built_in_flags, built_in_names, flags_of, name_of}
unfoldable pub use Rattle.py_node.specs.Known.{known_text, known_texts, number_of}
unfoldable pub use Rattle.py_node.specs.OwnAttrs.{own_attrs}
unfoldable pub use Rattle.py_node.specs.Slots.{all_slots, filling_of, names_of, place_of, slot_fillings, slot_names, slot_sorts, sort_of}
pub use Rattle.py_node.specs.declared.built_in.BuiltIn.TheVariants.{Dict, Function, Int, Str, TypeType}
pub use Rattle.py_node.specs.declared.entry.NativeEntry.TheVariants.{Compare, OfCallable, OfDescriptor, OfInt, OfObject, OfType}
pub use Rattle.py_node.specs.declared.entry.SlotId.TheVariants.{Add, Call, DescrGet, DescrSet, Hash, Init, New, Repr, Richcompare, RightAdd}
pub use Rattle.std.proofs.Common.{Bool, List, None, Option, Some, [], ap, append_assoc, arith, codes, cond, eqb, false, inl, inr, length, map, not, refl, subst, suc, sym, true, zero, ℕ, ◌∙◌}
pub use Rattle.std.proofs.lemmas.Bool.{and_parts, eqb-true, ltb-false, ltb-true, ne_eqb}
pub use Rattle.std.proofs.lemmas.List.{append-nil}
pub use Rattle.std.proofs.lemmas.List.Elements.{All-cons, All-head, All-nil, All-push, All-tail, All-weaker}
pub use Rattle.std.proofs.lemmas.Option.{slice_get_within}
pub use Rattle.std.specs.List.{All, AllByRecursion}
unfoldable pub use Rattle.std.specs.List.{IsDistinct}
