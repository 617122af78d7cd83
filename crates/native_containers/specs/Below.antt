-- The words of crates below that the definitions and contracts of this crate are written in.
pub use Rattle.class_world.specs.Claims.{Leaves, of_answer, of_args, of_ended, of_step, of_task}
pub use Rattle.class_world.specs.Held.{Held}
pub use Rattle.class_world.specs.Keyed.{of_entries, of_keyed}
pub use Rattle.class_world.specs.Reading.{Reading, Reads, bindings, compare_job, ended_of, plain, task_of}
pub use Rattle.class_world.specs.Rows.{EndsAs, LeavesEnd}
pub use Rattle.class_world.specs.Sound.{AllHold, AreNodes, CanBeKeys, Claim, Grows, Holding, Holds, IsClass, IsName, IsNode, IsOf, of_binding, of_each, of_node_ref, of_option}
pub use Rattle.class_world.specs.declared.world.World.{World}
pub use Rattle.plain_machine.specs.Dicts.{Entries, has_place, is_like, with_entries, with_entry, with_value_in, without_value_for}
pub use Rattle.plain_machine.specs.Known.{the_int, the_list, the_str}
pub use Rattle.plain_machine.specs.Objects.{class_object, with_datum}
pub use Rattle.plain_machine.specs.Plain.{AClassMethod, ADict, AList, ANumber, ASlice, AStaticMethod, AText, ATuple, AnIterator, Answered, AsObjects, AsValue, Asks, Bindings, CompareJob, Datum, DoCollect, DoHash, DoIdEq, DoIndex, DoIsTrue, DoRepr, DoSeqGt, DoSeqLt, DoSpecial, DoStr, DoWhole, Ended, Ends, Fact, PlainTask, PlainWorld, ReadObjects, Said, ToAttribute, ToCompare, ToNative, ToObject, ToProtocol, Told}
pub use Rattle.plain_machine.specs.Row.{Row, ask, elsewhere, end, fault, most_items, none, on_number, not_implemented, on_maybe, on_truth, on_value, pass, read_objects, start, truth, value}
pub use Rattle.plain_machine.specs.Sound.{key_at}
pub use Rattle.plain_machine.specs.Takes.{with_one, with_text, with_three, with_two, without_keywords}
pub use Rattle.plain_machine.specs.World.{class_at, datum_at, next_node, number_of, ref, with_node}
pub use Rattle.py_node.specs.Attributes.{value_of}
pub use Rattle.py_node.specs.Known.{known_text}
pub use Rattle.py_node.specs.Tree.{Text}
pub use Rattle.py_node.specs.declared.built_in.BuiltIn.TheVariants.{Dict, Iterator}
pub use Rattle.py_node.specs.declared.entry.CompareNative.{CompareNative}
pub use Rattle.py_node.specs.declared.entry.DictNative.{DictNative}
pub use Rattle.py_node.specs.declared.entry.IteratorNative.{IteratorNative}
pub use Rattle.py_node.specs.declared.entry.IteratorNative.TheVariants.{Next}
pub use Rattle.py_node.specs.declared.entry.ListNative.{ListNative}
pub use Rattle.py_node.specs.declared.entry.ListNative.TheVariants.{DelItem, InplaceAdd, SetItem}
pub use Rattle.py_node.specs.declared.entry.NativeEntry.{NativeEntry}
pub use Rattle.py_node.specs.declared.entry.NativeEntry.TheVariants.{Compare, NewOf, OfDict, OfIterator, OfList, OfStr, OfTuple, OfWrapper}
pub use Rattle.py_node.specs.declared.entry.StrNative.{StrNative}
pub use Rattle.py_node.specs.declared.entry.TupleNative.{TupleNative}
pub use Rattle.py_node.specs.declared.known.Known.TheVariants.{GetItem}
pub use Rattle.py_node.specs.declared.payload.PySlice.{PySlice}
pub use Rattle.py_node.specs.declared.payload.SequenceIterator.{SequenceIterator}
pub use Rattle.py_node.specs.declared.protocol.CompareTask.TheVariants.{IdEq}
pub use Rattle.py_node.specs.declared.raised.Cause.TheVariants.{ArgCount, ConcatType, ContainsType, IndexOut, IterEnd, KeyType, MissingKey, SelfType, TooLong}
pub use Rattle.py_node.specs.declared.raised.Kind.TheVariants.{IndexError, StopIteration}
pub use Rattle.py_node.specs.declared.raised.Raised.{Raised}
pub use Rattle.py_node.specs.declared.refs.PyObjectRef.{PyObjectRef}
pub use Rattle.py_node.specs.declared.refs.PyStrInterned.{PyStrInterned}
pub use Rattle.py_node.specs.declared.task.Answer.{Answer}
pub use Rattle.py_node.specs.declared.task.Answer.TheVariants.{Number, Value}
pub use Rattle.py_node.specs.declared.task.Step.{Step}
pub use Rattle.py_node.specs.declared.task.Step.TheVariants.{Ask, End}
pub use Rattle.py_node.specs.declared.task.Task.{Task}
pub use Rattle.row_kit.specs.Asking.{argument, as_said, tested_first, with_read}
pub use Rattle.row_kit.specs.GiveContainers.{keys_of, list_made, pairs_made, tuple_made, values_of}
pub use Rattle.row_kit.specs.IntValues.{number_hash}
pub use Rattle.row_kit.specs.ProtoBase.Each.{any_of, each_number, each_value, number, on_objects}
pub use Rattle.row_kit.specs.ProtoBase.Entered.{is_plain}
pub use Rattle.row_kit.specs.Say.{in_length, iterator_made, number_told, object_made, text_made}
pub use Rattle.row_kit.specs.TakeClasses.{with_heir, with_own}
pub use Rattle.row_kit.specs.TakeContainers.{entries_at, home_of_kind, is_of, items_at}
pub use Rattle.row_kit.specs.TakeTexts.{text_of}
pub use Rattle.row_kit.specs.declared.take_containers.Kind.{Kind}
pub use Rattle.std.specs.Char.{encode_utf8}
pub use Rattle.std.specs.Cmp.Lexicographic.{slice_cmp}
pub use Rattle.std.specs.Global.{Vec}
pub use Rattle.std.specs.Int.{cast_signed, w64}
pub use Rattle.std.specs.List.{flat_map, starts_with}
pub use Rattle.std.specs.Ordering.{is_eq, is_ge, is_gt, is_le, is_lt, is_ne, nat_cmp}
pub use Rattle.std.specs.Prelude.{Bool, Err, IfErr, IfNone, IfOk, IfSome, IsTrue, List, None, Ok, OnOk, Option, Result, Some, [], bit_xor, codes, cond, drop, eqb, false, fold, is_some, length, map, max, min, nat_le, nat_lt, negsuc, not, option_and_then, option_map, pos, slice_get, slice_range, slice_set, string_bytes, suc, take, true, zero, zip, ℕ, ℤ}
pub use Rattle.std.specs.Str.{IsUtf8, chars, encode_utf8_all, str_to_ascii_uppercase}
pub use Rattle.std.specs.declared.cmp.Ordering.{Ordering}
