-- The words of crates below that the definitions and contracts of this crate are written in.
pub use Rattle.class_model.specs.Class.{is_sub}
pub use Rattle.class_model.specs.Collect.{all_attributes}
pub use Rattle.class_world.specs.Claims.{Leaves, of_ended, of_method, of_object_task, of_protocol_task, of_step, of_task}
pub use Rattle.class_world.specs.Reading.{Reading, Reads, bindings, ended_of, object_job, plain, protocol_job, task_of}
pub use Rattle.class_world.specs.Rows.{EndsAs, LeavesEnd}
pub use Rattle.class_world.specs.Sound.{AllHold, AreNodes, Claim, Grows, Holds, IsNode, of_binding, of_each}
pub use Rattle.class_world.specs.declared.world.World.{World}
pub use Rattle.plain_machine.specs.Dicts.{Entries, dict_of, is_key}
pub use Rattle.plain_machine.specs.Known.{the_bool, the_dict, the_int, the_list, the_str, the_type}
pub use Rattle.plain_machine.specs.Native.{native_task}
pub use Rattle.plain_machine.specs.Objects.{class_number, is_instance, special_at, type_object}
pub use Rattle.plain_machine.specs.Plain.{AList, ANumber, ASlice, AText, ATuple, Answered, AsAttribute, AsExhausted, AsFunction, AsMaybe, AsNumber, AsTruth, AsValue, Asks, Bindings, Chose, Datum, DoAbsSub, DoBind, DoCall, DoCollect, DoContains, DoCount, DoDelItem, DoDelSlice, DoDir, DoFind, DoFormat, DoGetAttr, DoGetItem, DoGetIter, DoGetSlice, DoHash, DoHint, DoIndex, DoInst, DoInvoke, DoIsInstance, DoIsSubclass, DoIsTrue, DoItems, DoKeys, DoLength, DoLoadMethod, DoNext, DoRepr, DoSetItem, DoSetSlice, DoSpecial, DoStr, DoSub, DoValues, DoWhole, Ended, Ends, ObjectJob, PlainTask, PlainWorld, ProtocolJob, ReadObjects, Said, ToAttribute, ToCall, ToObject, ToProtocol, Told}
pub use Rattle.plain_machine.specs.Row.{Row, ask, choose, done, elsewhere, end, fault, fits_index, fork, is_attribute_error, is_not_implemented, make, none, on_done, on_number, on_truth, on_value, pass, read_objects, start, value}
pub use Rattle.plain_machine.specs.World.{class_at, datum_at, is_text, next_node, number_of, slot_at, with_node}
pub use Rattle.py_node.specs.Attributes.{value_of}
pub use Rattle.py_node.specs.BuiltIns.{place_of}
pub use Rattle.py_node.specs.Known.{known_text}
pub use Rattle.py_node.specs.Tree.{Text}
pub use Rattle.py_node.specs.declared.built_in.BuiltIn.TheVariants.{Slice}
pub use Rattle.py_node.specs.declared.entry.NativeEntry.{NativeEntry}
pub use Rattle.py_node.specs.declared.entry.NativeEntry.TheVariants.{OfDict, OfList}
pub use Rattle.py_node.specs.declared.entry.SlotEntry.{SlotEntry}
pub use Rattle.py_node.specs.declared.entry.SlotEntry.TheVariants.{Native, Wrapper}
pub use Rattle.py_node.specs.declared.entry.SlotId.TheVariants.{Hash, Iter, Iternext, MapAssSubscript, MapLength, MapSubscript, Repr, SeqAssItem, SeqContains, SeqItem, SeqLength}
pub use Rattle.py_node.specs.declared.known.Known.{Known}
pub use Rattle.py_node.specs.declared.known.Known.TheVariants.{Len, LengthHint}
pub use Rattle.py_node.specs.declared.protocol.ObjectTask.{ObjectTask}
pub use Rattle.py_node.specs.declared.protocol.ProtocolTask.{ProtocolTask}
pub use Rattle.py_node.specs.declared.raised.Cause.{Cause}
pub use Rattle.py_node.specs.declared.raised.Cause.TheVariants.{BasesShape, BoolType, ClassArg, FormatType, HashType, IndexRange, IndexReturn, IntLiteral, IntReturn, LengthType, NegativeLength, NoItemAssignment, NoItemDeletion, NoLength, NonIterableMethod, NotFound, NotIndex, NotInt, NotIterable, NotIterator, NotSubscriptable, ReprType, StrType, TruncReturn, Unhashable, Unsliceable}
pub use Rattle.py_node.specs.declared.raised.Kind.{Kind}
pub use Rattle.py_node.specs.declared.raised.Kind.TheVariants.{StopIteration, TypeError}
pub use Rattle.py_node.specs.declared.raised.Raised.{Raised}
pub use Rattle.py_node.specs.declared.refs.PyObjectRef.{PyObjectRef}
pub use Rattle.py_node.specs.declared.task.Answer.{Answer}
pub use Rattle.py_node.specs.declared.task.Answer.TheVariants.{Exhausted, Truth, Value}
pub use Rattle.py_node.specs.declared.task.Step.{Step}
pub use Rattle.py_node.specs.declared.task.Step.TheVariants.{Ask, End}
pub use Rattle.row_kit.specs.ClassAttributes.{keyed, or_no_attributes}
pub use Rattle.row_kit.specs.GiveContainers.{keys_of, list_made, pairs_made, values_of}
pub use Rattle.row_kit.specs.IntValues.{as_int, is_int, is_zero, number_hash, truth_of}
pub use Rattle.row_kit.specs.Points.{Group, Point}
pub use Rattle.row_kit.specs.ProtoBase.Each.{all_items, any_of, each_equal, number, objects, says, turned}
pub use Rattle.row_kit.specs.ProtoBase.Entered.{entered, is_exactly, is_plain}
pub use Rattle.row_kit.specs.Say.{in_range, int_made, iterator_made, sized_made}
pub use Rattle.row_kit.specs.TakeContainers.{entries_at, items_at}
pub use Rattle.row_kit.specs.TakeTexts.{text_of}
pub use Rattle.std.specs.Char.{is_ascii_digit}
pub use Rattle.std.specs.List.{list_all}
pub use Rattle.std.specs.Option.{option_or}
pub use Rattle.std.specs.Prelude.{Bool, Err, IfErr, IfOk, IfSome, List, None, Ok, Option, Result, Some, [], cond, drop, eqb, false, filter, int_lt, is_some, map, neg_ℤ, not, option_map, pos, slice_get, suc, true, zero, ℕ, ℤ}
pub use Rattle.std.specs.Str.Parse.{digits_value}
