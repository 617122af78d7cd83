-- The words that the answers of this crate are written in: its lemmas and definitions, and those of crates below.
pub use Rattle.class_world.proofs.Claims.{all-append, all-first, all-rest, no-nodes}
pub use Rattle.class_world.proofs.DictChanges.{none-hold}
pub use Rattle.class_world.proofs.Growth.{grows-itself, grows-on}
pub use Rattle.class_world.proofs.Items.{item_holds}
pub use Rattle.class_world.proofs.KeyEntries.{entries-themselves, keys-can}
pub use Rattle.class_world.specs.Sound.{AllHold, AreNames, AreNodes, IsClass, IsName, IsNode, of_binding, of_each, of_name_ref, of_option, of_optional, of_property, of_start}
pub use Rattle.plain_machine.specs.Dicts.{entries_from}
pub use Rattle.proto_attr.proofs.Below.{Binds, Steps, Wraps, along, class_at, ended_of, ends-follow, is_class, lin, lin-classes, line-seen, with_one_or_two}
unfoldable pub use Rattle.proto_attr.proofs.Below.{Holds, descriptor_say}
pub use Rattle.proto_attr.proofs.NativeCalls.Lists.{after-two-hold, get-one, get-two, rest-hold, rest-is, rest-nodes, without-more}
pub use Rattle.proto_attr.proofs.NativeCalls.Steps.{class-does, doc-does, does-begins, does-begins-ok, ended-does, ends-does, super-does, super-resumes, taken-descriptor, taken-steps, told-resumes}
pub use Rattle.proto_attr.proofs.NativeDetails.Asking.{asks-both, asks-getter, asks-setter}
pub use Rattle.proto_attr.proofs.NativeDetails.Named.{name-asks}
pub use Rattle.proto_attr.proofs.NativeObjects.Bases.{base-seen, bases-seen}
pub use Rattle.proto_attr.proofs.NativeObjects.Collected.{collecting-step}
pub use Rattle.proto_attr.proofs.NativeObjects.Ended.{ends-made}
pub use Rattle.proto_attr.proofs.NativeObjects.Followed.{of-classes}
pub use Rattle.proto_attr.proofs.NativeObjects.Held.{class-of}
pub use Rattle.proto_attr.proofs.NativeObjects.Owned.{attrs-there, heap-annotations, new-annotations, some-holds}
pub use Rattle.proto_attr.proofs.NativeObjects.Parts.{keyword-holds, name-holds, parts-hold, placed-hold, set-holds}
pub use Rattle.proto_attr.proofs.NativeObjects.Setting.{one-given, refused, set-of-classes, two-given}
pub use Rattle.proto_attr.proofs.Nodes.{first-node}
pub use Rattle.proto_attr.proofs.OrGetAttr.{get-attr-said}
pub use Rattle.proto_attr.proofs.ProtoDescr.Lines.{line-classes}
pub use Rattle.proto_attr.proofs.ProtoDescr.Names.{name_holds}
pub use Rattle.proto_attr.proofs.ProtoDescr.Steps.{closed-begins, closes-starts, passed-resumes, passed-starts, told-row}
pub use Rattle.proto_attr.proofs.Winning.{answer-given, class-last, data-wins, dict-next, neither-has}
pub use Rattle.proto_attr.specs.Below.{ADict, ASuper, ATuple, Answered, Ask, Asks, DoBinary, DoGetAttr, DoSuperInit, End, Ends, Get, GetterOf, MethodDescriptor, Or, PlainWorld, PyObjectRef, PyProperty, PySlice, PySuper, ReadObjects, Reading, Said, SetOwn, ToAttribute, ToOperator, base, bindings, datum, datum_at, done, end, fault, in_length, is_text, keyed, known_text, numbers, object_made, of_task, on_done, on_value, option_and_then, option_map, plain, ref, sized_made, special_at, spelled, spelled_option, string_bytes, text_made, the_dict, the_object, the_tuple, truth, with_heir, with_node, with_one, with_own_attr, with_two}
pub use Rattle.proto_attr.specs.NativeCalls.Asks.{Does}
pub use Rattle.proto_attr.specs.NativeCalls.Say.{by_way, class_method_by_name, class_of_wrapper, doc_asked, function_get_by_name, getset_get_by_name, member_get_by_name, native_get_by_name, property_get_by_name, super_get_by_name, wrapper_new}
pub use Rattle.proto_attr.specs.NativeDetails.Say.{abstract_by, listed, name_known}
pub use Rattle.proto_attr.specs.NativeObjects.Attributes.{class_dict, dict_made, given_annotations}
pub use Rattle.proto_attr.specs.NativeObjects.Descriptors.{member_repr, member_text, method_repr, method_text, part_set, super_repr, super_text}
pub use Rattle.proto_attr.specs.NativeObjects.DetailParts.{read_part}
pub use Rattle.proto_attr.specs.NativeObjects.Details.{accessor_part, bounds_part, getter_of_say, looked_part, or_none, part_given}
pub use Rattle.proto_attr.specs.NativeObjects.Getters.{class_read, getter_say, tuple_made}
pub use Rattle.proto_attr.specs.NativeObjects.Makers.{maker_say}
pub use Rattle.proto_attr.specs.NativeObjects.Setters.{changes, class_written, setter_say, take_own}
pub use Rattle.proto_attr.specs.ProtoDescr.Members.{member_get}
pub use Rattle.proto_attr.specs.ProtoDescr.Properties.{property_get}
pub use Rattle.proto_attr.specs.ProtoDescr.Rows.{described, descriptor_stands, parts_of}
pub use Rattle.proto_attr.specs.ProtoDescr.Say.{class_for, class_method_get, class_of_option, function_get, getset_get, native_get, static_method_get}
pub use Rattle.proto_attr.specs.ProtoDescr.Supers.{after, init_by, super_get, super_parts}
pub use Rattle.proto_attr.specs.Rows.{attribute_stands}
pub use Rattle.proto_attr.specs.Say.{attribute_say, by_name, or_get_attr}
pub use Rattle.proto_attr.specs.declared.AttributeKept.TheVariants.{Pass}
unfoldable pub use Rattle.py_node.specs.BuiltIns.{place_of}
pub use Rattle.py_node.specs.Dicts.{PlainDict}
pub use Rattle.py_node.specs.declared.built_in.BuiltIn.TheVariants.{Property}
pub use Rattle.py_node.specs.declared.payload.Function.{Function}
pub use Rattle.py_node.specs.declared.payload.MemberDescriptor.{MemberDescriptor}
pub use Rattle.row_kit.proofs.Ended.{sorted_ends}
pub use Rattle.row_kit.proofs.ObjectsEnded.{ends-after, ends-then}
pub use Rattle.std.proofs.Common.{Err, None, Option, Some, [], add-one, ap, arith, false, refl, rules, subst, sym, true, ℕ, ◌∙◌}
pub use Rattle.std.proofs.lemmas.Result.{err_from_is_err_and}
