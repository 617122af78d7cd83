-- The words of crates below that the definitions and contracts of this crate are written in.
pub use Rattle.class_model.specs.Class.{along, bases_of, found, is_sub, lin, own_of}
pub use Rattle.class_model.specs.Collect.{attrs_of}
pub use Rattle.class_model.specs.Layout.{base, place_at}
pub use Rattle.class_model.specs.Order.{all_some}
pub use Rattle.class_model.specs.Slot.{is_heap_at}
pub use Rattle.class_table.specs.Keys.{numbers}
pub use Rattle.class_table.specs.Rebase.{refused_class, refused_rebase}
pub use Rattle.class_table.specs.Refused.{NamesNoClass, refusal, refused_attr}
pub use Rattle.class_world.specs.Claims.{Leaves, of_answer, of_args, of_attribute_task, of_descriptor_task, of_ended, of_setter, of_step, of_task}
pub use Rattle.class_world.specs.Held.{Held}
pub use Rattle.class_world.specs.Reading.{Reading, Reads, answer_of, attribute_job, bindings, datum, descriptor_job, ended_of, plain, setter_value, spelled, spelled_option, task_of}
pub use Rattle.class_world.specs.Rows.{EndsAs, LeavesEnd}
pub use Rattle.class_world.specs.Sound.{AllHold, AreNodes, Claim, Grows, Holding, Holds, IsClass, IsName, IsNode, IsOf, IsOffset, class_in, flags_at, home_of, of_binding, of_class_ref, of_each, of_member, of_name_ref, of_node_ref, of_option, of_optional, of_payload, of_property, of_start}
pub use Rattle.class_world.specs.declared.world.World.{World}
pub use Rattle.plain_machine.specs.Change.{Change, SetBases, SetClass, SetDict, SetName, SetOwn, apply, without_own_attr}
pub use Rattle.plain_machine.specs.ClassText.{name_at, whole_name_at}
pub use Rattle.plain_machine.specs.Dicts.{Entries, dict_of, has_place, own_value, value_in, with_value_in, without_value_in}
pub use Rattle.plain_machine.specs.Known.{the_bool, the_builtin_method, the_dict, the_method, the_none_type, the_object, the_str, the_super, the_tuple}
pub use Rattle.plain_machine.specs.Members.{value_at_place, with_value_at_place}
pub use Rattle.plain_machine.specs.Native.{native_task}
pub use Rattle.plain_machine.specs.Objects.{class_number, class_object, derives, for_classes, for_objects, is_fast, is_instance, special_at, type_object, with_datum}
pub use Rattle.plain_machine.specs.Plain.{ABuiltinMethod, AClassMethod, ADict, AFunction, AGetSet, AList, AMember, AMethod, AMethodDescriptor, ANativeFunction, AProperty, ASlice, AStaticMethod, ASuper, AText, ATuple, Answered, AsAttribute, AsFunction, AsMaybe, AsStart, AsTruth, AsValue, Asks, AttributeJob, Bindings, Chose, Datum, DescriptorJob, DoBinary, DoBind, DoCall, DoDescrGet, DoDescrSet, DoGeneric, DoGenericOpt, DoGenericSet, DoGetAttr, DoHasAttr, DoInvoke, DoLoadMethod, DoNew, DoSetAttr, DoSpecial, DoSuperCheck, DoSuperGet, DoSuperInit, DoTypeGet, DoTypeSet, Ended, Ends, Made, PlainTask, PlainWorld, ReadObjects, Said, ToAttribute, ToCall, ToDescriptor, ToNative, ToOperator, Told}
pub use Rattle.plain_machine.specs.Row.{Row, ask, build, done, elsewhere, end, fault, fork, is_attribute_error, none, on_done, on_value, pass, read_objects, start, truth, value}
pub use Rattle.plain_machine.specs.Running.{running}
pub use Rattle.plain_machine.specs.Sound.{holds_as, read_offset, set_offset}
pub use Rattle.plain_machine.specs.Takes.{named_end, with_one, with_text, with_three, with_two, without_keywords}
pub use Rattle.plain_machine.specs.World.{class_at, datum_at, in_last, is_text, next_node, ref, slot_at, with_node, with_own_attr}
pub use Rattle.py_node.specs.BuiltIns.{fixed_none, place_of}
pub use Rattle.py_node.specs.Faults.{raised}
pub use Rattle.py_node.specs.Known.{known_text}
pub use Rattle.py_node.specs.Natives.{is_same_native}
pub use Rattle.py_node.specs.Tree.{Text}
pub use Rattle.py_node.specs.declared.built_in.BuiltIn.{BuiltIn}
pub use Rattle.py_node.specs.declared.built_in.BuiltIn.TheVariants.{BuiltinFunctionOrMethod, ClassMethod, Dict, StaticMethod}
pub use Rattle.py_node.specs.declared.entry.CallableNative.{CallableNative}
pub use Rattle.py_node.specs.declared.entry.DescriptorNative.{DescriptorNative}
pub use Rattle.py_node.specs.declared.entry.DescriptorNative.TheVariants.{GetSetSet}
pub use Rattle.py_node.specs.declared.entry.Detail.{Detail}
pub use Rattle.py_node.specs.declared.entry.Detail.TheVariants.{IsAbstract, Qualname}
pub use Rattle.py_node.specs.declared.entry.NativeEntry.{NativeEntry}
pub use Rattle.py_node.specs.declared.entry.NativeEntry.TheVariants.{GetterOf, NewOf, NewWrapper, OfCallable, OfDescriptor, OfObject, OfProperty, OfSuper, OfType, OfWrapper, SetterOf}
pub use Rattle.py_node.specs.declared.entry.Property.{Property}
pub use Rattle.py_node.specs.declared.entry.PropertyNative.{PropertyNative}
pub use Rattle.py_node.specs.declared.entry.SlotEntry.{SlotEntry}
pub use Rattle.py_node.specs.declared.entry.SlotEntry.TheVariants.{Native, Wrapper}
pub use Rattle.py_node.specs.declared.entry.SlotId.TheVariants.{DescrGet, DescrSet, Getattro, Setattro}
pub use Rattle.py_node.specs.declared.entry.SuperNative.{SuperNative}
pub use Rattle.py_node.specs.declared.entry.WrapperNative.{WrapperNative}
pub use Rattle.py_node.specs.declared.entry.WrapperNative.TheVariants.{ClassGet}
pub use Rattle.py_node.specs.declared.known.Known.{Known}
pub use Rattle.py_node.specs.declared.known.Known.TheVariants.{Annotations, Get}
pub use Rattle.py_node.specs.declared.payload.MemberGetter.{MemberGetter}
pub use Rattle.py_node.specs.declared.payload.MemberKind.{MemberKind}
pub use Rattle.py_node.specs.declared.payload.MemberSetter.{MemberSetter}
pub use Rattle.py_node.specs.declared.payload.MethodDescriptor.{MethodDescriptor}
pub use Rattle.py_node.specs.declared.payload.PyProperty.{PyProperty}
pub use Rattle.py_node.specs.declared.payload.PySlice.{PySlice}
pub use Rattle.py_node.specs.declared.payload.PySuper.{PySuper}
pub use Rattle.py_node.specs.declared.raised.Cause.{Cause}
pub use Rattle.py_node.specs.declared.raised.Cause.TheVariants.{ArgCount, BasesShape, CannotCreate, CannotDelete, ClassDict, DictType, EmptyMember, ImmutableType, MemberBool, MemberClass, NameType, NeedsType, NewSubtype, NoArguments, NoAttribute, NoBody, NoDeleter, NoDict, NoGetter, NoSetter, NoSpecial, NotAClass, NullInName, QualnameType, ReadOnly, SelfType, SuperArg, SuperCheckFailed, SuperNoClass, TooLong, UnexpectedKeyword}
pub use Rattle.py_node.specs.declared.raised.Raised.{Raised}
pub use Rattle.py_node.specs.declared.refs.PyObjectRef.{PyObjectRef}
pub use Rattle.py_node.specs.declared.refs.PyTypeRef.{PyTypeRef}
pub use Rattle.py_node.specs.declared.task.Answer.{Answer}
pub use Rattle.py_node.specs.declared.task.Answer.TheVariants.{Value}
pub use Rattle.py_node.specs.declared.task.AttributeTask.{AttributeTask}
pub use Rattle.py_node.specs.declared.task.DescriptorTask.{DescriptorTask}
pub use Rattle.py_node.specs.declared.task.PyNumberBinaryOp.TheVariants.{Or}
pub use Rattle.py_node.specs.declared.task.Step.{Step}
pub use Rattle.py_node.specs.declared.task.Step.TheVariants.{Ask, End}
pub use Rattle.py_node.specs.declared.task.Task.{Task}
pub use Rattle.row_kit.specs.Points.{Follows, Group, Point}
pub use Rattle.row_kit.specs.Asking.{argument, tested_first, with_read}
pub use Rattle.row_kit.specs.Called.{call_native}
pub use Rattle.row_kit.specs.ClassAttributes.{keyed}
pub use Rattle.row_kit.specs.ClassNames.{builtins, given, or_nothing, text_of}
pub use Rattle.row_kit.specs.OfSignatures.Signature.{signature_of}
pub use Rattle.row_kit.specs.Questions.{has_null}
pub use Rattle.row_kit.specs.Say.{in_length, int_made, object_made, sized_made, text_made}
pub use Rattle.row_kit.specs.TakeClasses.{there_or, with_class, with_heir, with_lone_class, with_own}
pub use Rattle.std.specs.Int.RustNames.{bit_and}
pub use Rattle.std.specs.List.{All}
pub use Rattle.std.specs.Option.{option_copied}
pub use Rattle.std.specs.Prelude.{Bool, Err, IfErr, IfOk, IfSome, List, None, Ok, OnErr, OnOk, Option, Result, Some, [], codes, cond, eqb, false, fold, is_some, length, map, nat_le, not, option_and_then, option_map, pos, slice_get, string_bytes, suc, true, zero, ℕ}
