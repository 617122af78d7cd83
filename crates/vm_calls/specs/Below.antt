-- The words of crates below that the definitions and contracts of this crate are written in.
pub use Rattle.class_model.specs.Change.{with_bases}
pub use Rattle.class_model.specs.Class.{Class, has_flag, is_class}
pub use Rattle.class_model.specs.Dict.{gives_dict}
pub use Rattle.class_model.specs.Slot.{is_by_itself, is_sort}
pub use Rattle.class_table.specs.Rebase.{refused_class, refused_rebase}
pub use Rattle.class_table.specs.Refused.{AreThere}
pub use Rattle.class_world.specs.Claims.{of_answer, of_args, of_method, of_setter, of_task}
pub use Rattle.class_world.specs.Held.{Held}
pub use Rattle.class_world.specs.Reading.{IsReadable, Reading, Reads, answer_of, datum, plain, task_of}
pub use Rattle.class_world.specs.Sound.{AllHold, AreNodes, Claim, Grows, Holds, IsClass, IsName, IsNode, IsOf, class_in, flags_at, home_of, is_marked_heap, of_node_ref, of_option, of_payload}
pub use Rattle.plain_machine.specs.Answer.{Out, Over, answer}
pub use Rattle.plain_machine.specs.Known.{the_builtin_method, the_int, the_list, the_method, the_none_type, the_str, the_tuple}
pub use Rattle.plain_machine.specs.Native.{native_task}
pub use Rattle.plain_machine.specs.Objects.{is_instance, type_object}
pub use Rattle.plain_machine.specs.Plain.{ABuiltinMethod, AList, AMethod, AMethodDescriptor, ANumber, AText, ATuple, AsAttribute, AsDone, AsExhausted, AsFunction, AsMaybe, AsNumber, AsObjects, AsStart, AsTruth, AsValue, Asks, AttributeJob, Bindings, CallJob, ClassJob, CompareJob, Datum, DescriptorJob, DoAbsSub, DoBoolEq, DoCall, DoCollect, DoContains, DoCount, DoDelItem, DoDelSlice, DoDescrSet, DoEnter, DoEnterPower, DoFind, DoGenericOpt, DoGenericSet, DoGetAttr, DoGetItem, DoGetIter, DoHasAttr, DoHash, DoHint, DoIdEq, DoIndex, DoInit, DoInst, DoInvoke, DoIsInstance, DoIsSubclass, DoIsTrue, DoLength, DoLoadMethod, DoNext, DoObject, DoRichBool, DoSeqGt, DoSeqLt, DoSetAttr, DoSetItem, DoSetSlice, DoSub, DoSuperCheck, DoSuperInit, DoTypeSet, DoWhole, Ends, EvalJob, ObjectJob, OperatorJob, PlainAnswer, PlainTask, PlainWorld, ProtocolJob, Saying, ToAttribute, ToCall, ToClass, ToCompare, ToDescriptor, ToEval, ToNative, ToObject, ToOperator, ToProtocol, Told}
pub use Rattle.plain_machine.specs.Row.{Row, most_items, none, truth, value}
pub use Rattle.plain_machine.specs.Sound.{IsSound}
pub use Rattle.plain_machine.specs.World.{class_at, datum_at, next_node, number_of, slot_at, with_node}
pub use Rattle.proto_attr.specs.ProtoDescr.Say.{descriptor_say}
pub use Rattle.proto_attr.specs.Say.{attribute_say}
pub use Rattle.proto_call.specs.ClassMake.Say.{class_job_say}
pub use Rattle.proto_call.specs.EvalForms.Say.{eval_say}
pub use Rattle.proto_call.specs.Say.{call_job_say}
pub use Rattle.proto_object.specs.ProtoItems.Say.{items_job_say}
pub use Rattle.proto_object.specs.ProtoIter.Say.{iter_job_say}
pub use Rattle.proto_object.specs.ProtoNumber.Say.{number_job_say}
pub use Rattle.proto_object.specs.Say.{object_job_say}
pub use Rattle.proto_ops.specs.ProtoCompare.Say.{compare_job_say}
pub use Rattle.proto_ops.specs.Say.{operator_say}
pub use Rattle.py_node.specs.BuiltIns.{fixed_false, fixed_true, flags_of, heap_type, method_descriptor, place_of}
pub use Rattle.py_node.specs.Faults.{raised}
pub use Rattle.py_node.specs.Operators.{OperatorRow, operator_row, operators}
pub use Rattle.py_node.specs.Slots.{is_slot, sort_of}
pub use Rattle.py_node.specs.Tree.{Text}
pub use Rattle.py_node.specs.declared.built_in.BuiltIn.{BuiltIn}
pub use Rattle.py_node.specs.declared.entry.NativeEntry.{NativeEntry}
pub use Rattle.py_node.specs.declared.entry.NativeEntry.TheVariants.{OfDict, OfList, OfNumber, OfObject, OfStr, OfTuple}
pub use Rattle.py_node.specs.declared.entry.SlotEntry.{SlotEntry}
pub use Rattle.py_node.specs.declared.entry.SlotEntry.TheVariants.{Native}
pub use Rattle.py_node.specs.declared.entry.SlotId.{SlotId}
pub use Rattle.py_node.specs.declared.entry.SlotId.TheVariants.{Index, MapLength, MapSubscript, Repr, SeqItem, SeqLength}
pub use Rattle.py_node.specs.declared.protocol.ProtocolTask.TheVariants.{Collect, DelItem, SetItem}
pub use Rattle.py_node.specs.declared.raised.Cause.{Cause}
pub use Rattle.py_node.specs.declared.raised.Cause.TheVariants.{NoItemAssignment, NoItemDeletion, NotMapping, NotSequence, TooLong}
pub use Rattle.py_node.specs.declared.refs.PyObjectRef.{PyObjectRef}
pub use Rattle.py_node.specs.declared.refs.PyStrInterned.{PyStrInterned}
pub use Rattle.py_node.specs.declared.slots.Sort.TheVariants.{ByMapping, BySequence}
pub use Rattle.py_node.specs.declared.task.Answer.{Answer}
pub use Rattle.py_node.specs.declared.task.Answer.TheVariants.{Maybe, Method, Number, Objects, Truth, Value}
pub use Rattle.py_node.specs.declared.task.AttributeTask.TheVariants.{GetAttr, Invoke, LoadMethod}
pub use Rattle.py_node.specs.declared.task.CallTask.TheVariants.{Call}
pub use Rattle.py_node.specs.declared.task.PyMethod.{PyMethod}
pub use Rattle.py_node.specs.declared.task.PyMethod.TheVariants.{Function}
pub use Rattle.py_node.specs.declared.task.PyNumberBinaryOp.{PyNumberBinaryOp}
pub use Rattle.py_node.specs.declared.task.PyResult.{PyResult}
pub use Rattle.py_node.specs.declared.task.PyResult.TheVariants.{Budget, Done, Raised}
pub use Rattle.py_node.specs.declared.task.Task.{Task}
pub use Rattle.std.specs.Global.{Vec}
pub use Rattle.std.specs.Option.{option_or}
pub use Rattle.std.specs.Prelude.{Bool, Err, IfErr, IfOk, IfSome, IsTrue, List, None, Ok, OnErr, OnOk, Option, Result, Some, [], cond, eqb, false, find, is_ok, is_some, length, nat_le, negsuc, not, option_and_then, option_map, pos, string_bytes, suc, true, ℕ, ℤ}
pub use Rattle.vm_eval.specs.Asks.{Asked, ending_in, of_done, unnoted}
pub use Rattle.vm_eval.specs.OfNatives.Say.{native_job_say}
pub use Rattle.vm_eval.specs.Say.{say}
pub use Rattle.vm_eval.specs.State.{State}
pub use Rattle.vm_eval.specs.declared.machine.RunFault.{RunFault}
