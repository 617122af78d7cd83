-- The words of crates below that the definitions and contracts of this crate are written in.
pub use Rattle.class_model.specs.Change.{with_bases}
pub use Rattle.class_model.specs.Class.{class_at, own_of}
pub use Rattle.class_model.specs.Dict.{heap_class}
pub use Rattle.class_model.specs.Layout.{best_of}
pub use Rattle.class_table.specs.ClassLog.Change.{DelOwn, SetOwn, change_of}
pub use Rattle.class_table.specs.ClassLog.Logged.{AreSameButForNames, made_by_script, made_single}
pub use Rattle.class_table.specs.ClassLog.Refused.{AreMade}
pub use Rattle.class_table.specs.ClassLog.Shown.{first_classes, shown}
pub use Rattle.class_table.specs.Descendants.{descendants}
pub use Rattle.class_table.specs.Keys.{numbers, slot_names}
pub use Rattle.class_table.specs.OneBase.{refused_single, says_so, single_class, static_flags}
pub use Rattle.class_table.specs.Rebase.{IsToldFirst, refused_change, refused_rebase, told}
pub use Rattle.class_table.specs.Refused.{IsEarly, NamesNoClass, WithMemory, refusal, refused_attr}
pub use Rattle.class_table.specs.Settle.{line_places}
pub use Rattle.class_table.specs.declared.fault.ClassFault.{ClassFault}
pub use Rattle.class_world.specs.Claims.{Leaves, LeavesOpen, left_open, of_answer, of_args, of_attribute_task, of_ended, of_step, of_task}
pub use Rattle.class_world.specs.Held.{Held}
pub use Rattle.class_world.specs.Names.{AddsName}
pub use Rattle.class_world.specs.NewHeap.{of_slots, refused_heap, slot_texts}
pub use Rattle.class_world.specs.Reading.{IsReadable, Reading, Reads, answer_of, bindings, datum, ended_of, plain, protocol_job, spelled, spelled_option, task_of}
pub use Rattle.class_world.specs.Rows.{EndsAs, LeavesEnd}
pub use Rattle.class_world.specs.Sound.{AllHold, AreNames, Claim, Grows, Holding, Holds, IsClass, IsExpression, IsName, IsNode, IsOf, IsOffset, Lasts, class_in, home_of, of_binding, of_class_ref, of_each, of_name_ref, of_option, of_payload}
pub use Rattle.class_world.specs.declared.world.World.{World}
pub use Rattle.native_containers.specs.NativeCompare.Rows.{compared_stands, of_compared_kept}
pub use Rattle.native_containers.specs.NativeCompare.Say.{compare_native_say}
pub use Rattle.native_containers.specs.NativeItems.Rows.{item_stands, of_item_kept}
pub use Rattle.native_containers.specs.NativeItems.Say.{items_native_say}
pub use Rattle.native_containers.specs.NativeConversions.Rows.{of_conversion_kept, conversion_stands}
pub use Rattle.native_containers.specs.NativeConversions.Say.{conversion_native_say}
pub use Rattle.native_containers.specs.NativeTexts.Say.{compare_text_say, text_say}
pub use Rattle.native_containers.specs.Say.{dict_say, iterator_say, list_say, tuple_say}
pub use Rattle.plain_machine.specs.Answer.{Ending, NoUnits, Out, Outcome, Over, Run, answer, answering, plain_run, reach, replied}
pub use Rattle.plain_machine.specs.Change.{SetBases, apply, without_own_attr}
pub use Rattle.plain_machine.specs.Known.{the_type}
pub use Rattle.plain_machine.specs.Plain.{ABuiltinMethod, AClassMethod, AStaticMethod, Bindings, Datum, DoCollect, DoContains, DoCount, DoEval, DoFind, DoGetIter, DoHint, DoIndex, DoIsTrue, DoLength, DoNext, DoWhole, Ended, Ends, PlainTask, PlainWorld, ProtocolJob, Said, Saying, ToAttribute, ToCall, ToClass, ToCompare, ToDescriptor, ToEval, ToNative, ToObject, ToOperator, ToProtocol}
pub use Rattle.plain_machine.specs.Row.{Row, elsewhere, end, fault}
pub use Rattle.plain_machine.specs.Show.{show}
pub use Rattle.plain_machine.specs.Sound.{IsSound, read_offset, set_offset}
pub use Rattle.plain_machine.specs.Start.{start}
pub use Rattle.plain_machine.specs.World.{has_dict, is_text, next_node, ref, text_keys, with_new_class, with_node, with_own_attr, without_calls}
pub use Rattle.proto_attr.specs.NativeCalls.Asks.{asking_stands, of_native_kept}
pub use Rattle.proto_attr.specs.NativeCalls.Say.{asking_say}
pub use Rattle.proto_attr.specs.NativeDefs.Definitions.{as_bound_method, as_function, as_method, definition_of, with_method}
pub use Rattle.proto_attr.specs.NativeDefs.Members.{as_member, member_of}
pub use Rattle.proto_attr.specs.NativeDetails.Rows.{detail_stands, of_detail_kept}
pub use Rattle.proto_attr.specs.NativeDetails.Say.{details_native_say}
pub use Rattle.proto_attr.specs.NativeObjects.Descriptors.{callable_say, descriptor_native_say, property_say, super_say, wrapper_say}
pub use Rattle.proto_attr.specs.NativeObjects.DetailSetters.{setter_of_say}
pub use Rattle.proto_attr.specs.NativeObjects.Details.{getter_of_say}
pub use Rattle.proto_attr.specs.NativeObjects.Getters.{getter_say}
pub use Rattle.proto_attr.specs.NativeObjects.Makers.{maker_say}
pub use Rattle.proto_attr.specs.NativeObjects.Setters.{setter_say}
pub use Rattle.proto_attr.specs.ProtoDescr.Rows.{descriptor_stands, of_descriptor_kept}
pub use Rattle.proto_attr.specs.ProtoDescr.Say.{descriptor_say}
pub use Rattle.proto_attr.specs.Rows.{Begins, attribute_stands, of_attribute_kept}
pub use Rattle.proto_attr.specs.Say.{attribute_say}
pub use Rattle.proto_call.specs.ClassMake.Rows.{class_stands, of_class_kept}
pub use Rattle.proto_call.specs.ClassMake.Say.{class_job_say}
pub use Rattle.proto_call.specs.EvalForms.Rows.{eval_stands, of_eval_kept}
pub use Rattle.proto_call.specs.EvalForms.Say.{eval_say}
pub use Rattle.proto_call.specs.Rows.{bodies_of, call_stands, of_call_kept}
pub use Rattle.proto_call.specs.Say.{call_job_say}
pub use Rattle.proto_object.specs.ProtoItems.Rows.{items_stands, of_items_kept}
pub use Rattle.proto_object.specs.ProtoItems.Say.{items_job_say}
pub use Rattle.proto_object.specs.ProtoIter.Rows.{iter_stands, of_iter_kept}
pub use Rattle.proto_object.specs.ProtoIter.Say.{iter_job_say}
pub use Rattle.proto_object.specs.ProtoNumber.Rows.{number_stands, of_number_kept}
pub use Rattle.proto_object.specs.ProtoNumber.Say.{number_job_say}
pub use Rattle.proto_object.specs.Rows.{object_stands, of_object_kept}
pub use Rattle.proto_object.specs.Say.{object_job_say}
pub use Rattle.proto_ops.specs.NativeNumbers.Say.{arithmetic_say, bits_say, compare_say, fixed_say, number_say}
pub use Rattle.proto_ops.specs.NativeRepeats.Rows.{of_repeat_kept, repeat_stands}
pub use Rattle.proto_ops.specs.NativeRepeats.Say.{repeat_native_say}
pub use Rattle.proto_ops.specs.ProtoCompare.Rows.{compare_stands, of_compare_kept}
pub use Rattle.proto_ops.specs.ProtoCompare.Say.{compare_job_say}
pub use Rattle.proto_ops.specs.Rows.{of_operator_kept, operator_stands}
pub use Rattle.proto_ops.specs.Say.{operator_say}
pub use Rattle.py_node.specs.Faults.{raised}
pub use Rattle.py_node.specs.BuiltIns.{heap_flags, place_of}
pub use Rattle.py_node.specs.Replies.{GivesValue, PlainReply, reply_answer_of, reply_of}
pub use Rattle.py_node.specs.Tree.{Text, Tree, tree_of}
pub use Rattle.py_node.specs.declared.built_in.BuiltIn.{BuiltIn}
pub use Rattle.py_node.specs.declared.built_in.BuiltIn.TheVariants.{Int, Str, TypeType}
pub use Rattle.py_node.specs.declared.entry.NativeEntry.{NativeEntry}
pub use Rattle.py_node.specs.declared.entry.NativeEntry.TheVariants.{Compare, Getter, GetterOf, NewOf, NewWrapper, OfArithmetic, OfBits, OfCallable, OfDescriptor, OfDict, OfFixed, OfIterator, OfList, OfNumber, OfProperty, OfStr, OfSuper, OfTuple, OfWrapper, Setter, SetterOf}
pub use Rattle.py_node.specs.declared.expr.Command.{Command}
pub use Rattle.py_node.specs.declared.memory.OutOfMemory.{OutOfMemory}
pub use Rattle.py_node.specs.declared.raised.Cause.{Cause}
pub use Rattle.py_node.specs.declared.raised.Cause.TheVariants.{DepthLimit}
pub use Rattle.py_node.specs.declared.raised.Raised.{Raised}
pub use Rattle.py_node.specs.declared.refs.PyObjectRef.{PyObjectRef}
pub use Rattle.py_node.specs.declared.refs.PyStrInterned.{PyStrInterned}
pub use Rattle.py_node.specs.declared.refs.PyTypeRef.{PyTypeRef}
pub use Rattle.py_node.specs.declared.reply.Reply.{Reply}
pub use Rattle.py_node.specs.declared.task.Answer.{Answer}
pub use Rattle.py_node.specs.declared.task.PyResult.{PyResult}
pub use Rattle.py_node.specs.declared.task.PyResult.TheVariants.{Budget, Done}
pub use Rattle.py_node.specs.declared.task.Step.{Step}
pub use Rattle.py_node.specs.declared.task.Step.TheVariants.{Ask, End}
pub use Rattle.py_node.specs.declared.task.Task.{Task}
pub use Rattle.std.specs.Prelude.{Bool, Err, IfErr, IfOk, IsSome, IsTrue, List, None, Ok, OnErr, OnOk, Option, Result, Some, [], false, fold, is_some, length, map, sum_by, true, vec_capacity, ℕ}
