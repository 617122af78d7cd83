-- The words of crates below that the definitions and contracts of this crate are written in.
pub use Rattle.class_model.specs.BuiltIn.{natives_of}
pub use Rattle.class_model.specs.Change.{with_bases, with_class, with_class_attr, with_class_name, without_class_attr}
pub use Rattle.class_model.specs.Class.{Class, Classes, class_at, found, has_flag, is_class, is_sub, lin}
pub use Rattle.class_model.specs.Dict.{has_dict, has_its_dict, keeps_dict, says_dict}
pub use Rattle.class_model.specs.Layout.{base, built_ins, is_empty, is_place, layout, place_count}
pub use Rattle.class_model.specs.Name.{short_name}
pub use Rattle.class_model.specs.Numbers.{numbers_of}
pub use Rattle.class_model.specs.Slot.{Keys, candidates_of, entry, first_with, goes_first, is_heap_at, slot}
pub use Rattle.class_model.specs.Sound.{AreSound}
pub use Rattle.class_model.specs.Start.{built_in_classes}
pub use Rattle.py_node.specs.Attributes.{value_of, with_value}
pub use Rattle.py_node.specs.BuiltIns.{all_built_ins, fixed_false, fixed_none, fixed_not_implemented, fixed_true, method_descriptor, place_of}
pub use Rattle.py_node.specs.Faults.{cause_word, kind_word, raised}
pub use Rattle.py_node.specs.Known.{known_text}
pub use Rattle.py_node.specs.OwnAttrs.{own_attrs}
pub use Rattle.py_node.specs.Replies.{GivesBudget, GivesRaise, GivesValue, PlainReply, PlainReplyAnswer, Started}
pub use Rattle.py_node.specs.Slots.{all_slots, printed_name}
pub use Rattle.py_node.specs.Tree.{Text, Tree}
pub use Rattle.py_node.specs.declared.attr.Attr.{Attr}
pub use Rattle.py_node.specs.declared.attr.Attr.TheVariants.{ClassMethod, Method, New, NoHash, Part, ReadOnly, Settable, SettablePart}
pub use Rattle.py_node.specs.declared.built_in.BuiltIn.{BuiltIn}
pub use Rattle.py_node.specs.declared.entry.IntNative.{IntNative}
pub use Rattle.py_node.specs.declared.entry.NativeEntry.{NativeEntry}
pub use Rattle.py_node.specs.declared.entry.NativeEntry.TheVariants.{Getter, GetterOf, NewWrapper, OfInt, OfObject, OfType, Setter, SetterOf}
pub use Rattle.py_node.specs.declared.entry.ObjectNative.{ObjectNative}
pub use Rattle.py_node.specs.declared.entry.SlotEntry.{SlotEntry}
pub use Rattle.py_node.specs.declared.entry.SlotEntry.TheVariants.{Native, Unhashable, Wrapper}
pub use Rattle.py_node.specs.declared.entry.SlotId.{SlotId}
pub use Rattle.py_node.specs.declared.entry.TypeNative.{TypeNative}
pub use Rattle.py_node.specs.declared.known.Known.{Known}
pub use Rattle.py_node.specs.declared.payload.MemberGetter.{MemberGetter}
pub use Rattle.py_node.specs.declared.payload.MemberKind.{MemberKind}
pub use Rattle.py_node.specs.declared.payload.MemberSetter.{MemberSetter}
pub use Rattle.py_node.specs.declared.payload.PyProperty.{PyProperty}
pub use Rattle.py_node.specs.declared.payload.PySlice.{PySlice}
pub use Rattle.py_node.specs.declared.payload.SequenceIterator.{SequenceIterator}
pub use Rattle.py_node.specs.declared.raised.Cause.{Cause}
pub use Rattle.py_node.specs.declared.raised.Cause.TheVariants.{ArgCount, DepthLimit, SelfType, TooLong, UnexpectedKeyword}
pub use Rattle.py_node.specs.declared.raised.Kind.{Kind}
pub use Rattle.py_node.specs.declared.raised.Kind.TheVariants.{AttributeError}
pub use Rattle.py_node.specs.declared.raised.Raised.{Raised}
pub use Rattle.py_node.specs.declared.refs.PyObjectRef.{PyObjectRef}
pub use Rattle.py_node.specs.declared.task.PyComparisonOp.{PyComparisonOp}
pub use Rattle.py_node.specs.declared.task.PyNumberBinaryOp.{PyNumberBinaryOp}
pub use Rattle.py_node.specs.declared.task.PyNumberUnaryOp.{PyNumberUnaryOp}
pub use Rattle.std.specs.Char.{digit_char}
pub use Rattle.std.specs.Cmp.Lexicographic.{pointwise}
pub use Rattle.std.specs.Fmt.{signed_decimal}
pub use Rattle.std.specs.Int.RustNames.{bit_and}
pub use Rattle.std.specs.List.{All, IsDistinct, flat_map}
pub use Rattle.std.specs.Map.{keys_of}
pub use Rattle.std.specs.Ordering.{int_eq}
pub use Rattle.std.specs.Prelude.{Bool, Err, List, None, Ok, Option, Result, Some, [], codes, cond, drop, eqb, false, fold, is_none, is_some, length, map, nat_le, nat_lt, negsuc, option_and_then, option_map, pos, slice_get, suc, take, true, zero, ℕ, ℤ}
