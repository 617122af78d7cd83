-- The words of crates below that the definitions and contracts of this crate are written in.
pub use Rattle.class_model.specs.BuiltIn.{natives_of}
pub use Rattle.class_model.specs.Change.{with_bases, with_class}
pub use Rattle.class_model.specs.Class.{Class, Classes, class_at, found, found_past, has_flag, is_class, is_sub, own_of, renamed}
pub use Rattle.class_model.specs.Collect.{all_attributes}
pub use Rattle.class_model.specs.Dict.{any_has_dict, gives_dict, has_dict, heap_class, slot_members, slots_bring}
pub use Rattle.class_model.specs.Layout.{best_of, built_ins, place_at, place_count}
pub use Rattle.class_model.specs.Name.{short_name}
pub use Rattle.class_model.specs.Numbers.{limit}
pub use Rattle.class_model.specs.Offset.{offset_of}
pub use Rattle.class_model.specs.Slot.{candidates_of, first_with, goes_first, is_heap_at, slot}
pub use Rattle.class_table.specs.ClassLog.Change.{Change, DelOwn, SetOwn, change_of}
pub use Rattle.class_table.specs.ClassLog.Following.{Keeps}
pub use Rattle.class_table.specs.ClassLog.Logged.{AreSameButForNames, IsGiven, IsLogged, made_by_script, made_single}
pub use Rattle.class_table.specs.ClassLog.Refused.{AreMade}
pub use Rattle.class_table.specs.ClassLog.Shown.{first_classes, shown}
pub use Rattle.class_table.specs.Descendants.{descendants}
pub use Rattle.class_table.specs.Keys.{numbers, slot_names, table_keys}
pub use Rattle.class_table.specs.OneBase.{refused_single, says_so, single_class, static_flags}
pub use Rattle.class_table.specs.Rebase.{IsToldFirst, refused_change, refused_class, refused_rebase, told}
pub use Rattle.class_table.specs.Refused.{AreThere, IsEarly, NamesNoClass, WithMemory, cause_of, refusal, refused_attr, refused_bases, refused_layout}
pub use Rattle.class_table.specs.Settle.{line_places}
pub use Rattle.class_table.specs.Start.{Numbered, start_classes}
pub use Rattle.class_table.specs.Turn.{list_of}
pub use Rattle.plain_machine.specs.Args.{filled, two_of}
pub use Rattle.plain_machine.specs.Change.{SetBases, SetClass, SetDict, SetName, apply, without_own_attr}
pub use Rattle.plain_machine.specs.Dicts.{dict_of, entries_from, entries_in, has_place, is_like, is_one_key, own_value, value_in, with_entries, with_entry, with_value_in, without_value_for, without_value_in}
pub use Rattle.plain_machine.specs.Known.{the_bool, the_dict, the_none_type, the_not_implemented_type, the_str, the_type}
pub use Rattle.plain_machine.specs.Members.{value_at_place, with_value_at_place}
pub use Rattle.plain_machine.specs.Native.{native_task}
pub use Rattle.plain_machine.specs.Objects.{class_method, class_number, class_object, is_fast, is_for_objects, is_instance, nearest_built_in, object_method, special_at, type_object, with_datum, with_definer}
pub use Rattle.plain_machine.specs.Plain.{ABuiltinMethod, AClass, AClassMethod, ADict, AFunction, AGetSet, AList, AMember, AMethod, AMethodDescriptor, ANativeFunction, ANumber, AProperty, ASlice, AStaticMethod, ASuper, AText, ATuple, AnIterator, AnObject, AsAttribute, AsDone, AsExhausted, AsFunction, AsMaybe, AsNumber, AsObjects, AsStart, AsTruth, AsValue, Asks, AttributeJob, Bindings, CallJob, ClassJob, CompareJob, Datum, DescriptorJob, DoAbsSub, DoAdd, DoBinOp1, DoBinary, DoBind, DoBody, DoBoolEq, DoCall, DoCmp, DoCollect, DoCompare, DoConcat, DoContains, DoCount, DoDelItem, DoDelSlice, DoDescrGet, DoDescrSet, DoDir, DoEnter, DoEnterPower, DoEval, DoFind, DoFormat, DoGeneric, DoGenericOpt, DoGenericSet, DoGetAttr, DoGetItem, DoGetIter, DoGetSlice, DoHasAttr, DoHash, DoHint, DoIdEq, DoIndex, DoInit, DoInplace, DoInplaceAdd, DoInplaceConcat, DoInplaceMul, DoInplaceOp1, DoInplacePower, DoInplaceRepeat, DoInst, DoInt, DoInvoke, DoIsInstance, DoIsSubclass, DoIsTrue, DoItems, DoKeys, DoLength, DoLoadMethod, DoMakeClass, DoMul, DoNativeRepeat, DoNew, DoNext, DoObject, DoPower, DoRepeat, DoRepr, DoRichBool, DoSeqGt, DoSeqLt, DoSetAttr, DoSetItem, DoSetSlice, DoSpecial, DoStr, DoSub, DoSuperCheck, DoSuperGet, DoSuperInit, DoType, DoTypeCall, DoTypeGet, DoTypeSet, DoUnary, DoValues, DoWhole, Ended, Ends, EvalJob, ObjectJob, OperatorJob, Places, PlainAnswer, PlainTask, PlainWorld, ProtocolJob, Said, Saying, Scope, ToAttribute, ToCall, ToClass, ToCompare, ToDescriptor, ToEval, ToNative, ToObject, ToOperator, ToProtocol, Told}
pub use Rattle.plain_machine.specs.Row.{most_items, none, truth}
pub use Rattle.plain_machine.specs.Running.{running}
pub use Rattle.plain_machine.specs.Sound.{AreKeys, IsSound, Key, NumberKey, TextKey, held_by, holds_as, is_offset, key_at, read_offset, set_offset}
pub use Rattle.plain_machine.specs.Start.{attr_class, is_made, start}
pub use Rattle.plain_machine.specs.Takes.{text_in, with_one, with_text, with_three, with_two, without_keywords}
pub use Rattle.plain_machine.specs.World.{at_depth, candidates_at, datum_at, goes_first_at, in_last, is_text, next_node, or_else_var, or_empty, ref, slot_at, text_keys, variable, with_binding, with_new_class, with_node, with_own_attr, with_scope, without_calls, without_scope}
pub use Rattle.py_node.specs.Attributes.{AreNamesDistinct, is_same_name, value_of}
pub use Rattle.py_node.specs.BuiltIns.{all_built_ins, built_in_count, fixed_false, fixed_node_count, fixed_none, fixed_not_implemented, fixed_true, flags_of, heap_flags, heap_type, method_descriptor, place_of}
pub use Rattle.py_node.specs.Dicts.{PlainDict, dict_pushed, dict_put, dict_removed, empty_dict, is_same_key, put_at}
pub use Rattle.py_node.specs.Faults.{raised}
pub use Rattle.py_node.specs.Known.{known_text, known_texts, number_of}
pub use Rattle.py_node.specs.OwnAttrs.{own_attrs}
pub use Rattle.py_node.specs.Places.{value_at}
pub use Rattle.py_node.specs.Replies.{Started, started_of}
pub use Rattle.py_node.specs.Texts.{AreDistinct, Stands}
pub use Rattle.py_node.specs.Tree.{Entries, TAttr, TBind, TCall, TClass, TConst, TDelAttr, TDict, TFunc, TIf, TList, TName, TOp, TRaise, TSeq, TSetAttr, TTuple, Text, Tree, entry, keyed_of, literal_of, no_entries, trees_of}
pub use Rattle.py_node.specs.declared.attr.Attr.{Attr}
pub use Rattle.py_node.specs.declared.attr.Attr.TheVariants.{ClassMethod, New, NoHash, Part, ReadOnly, Settable, SettablePart}
pub use Rattle.py_node.specs.declared.built_in.BuiltIn.{BuiltIn}
pub use Rattle.py_node.specs.declared.built_in.BuiltIn.TheVariants.{Dict, Property, Str, TypeType}
pub use Rattle.py_node.specs.declared.dict.PyDictKey.{PyDictKey}
pub use Rattle.py_node.specs.declared.entry.NativeEntry.TheVariants.{Getter, GetterOf, NewWrapper, Setter, SetterOf}
pub use Rattle.py_node.specs.declared.known.Known.{Known}
pub use Rattle.py_node.specs.declared.known.Known.TheVariants.{Qualname}
pub use Rattle.py_node.specs.declared.memory.OutOfMemory.{OutOfMemory}
pub use Rattle.py_node.specs.declared.payload.Form.{Form}
pub use Rattle.py_node.specs.declared.payload.Function.{Function}
pub use Rattle.py_node.specs.declared.payload.MemberDescriptor.{MemberDescriptor}
pub use Rattle.py_node.specs.declared.payload.Node.{Node}
pub use Rattle.py_node.specs.declared.payload.Payload.{Payload}
pub use Rattle.py_node.specs.declared.payload.Payload.TheVariants.{GetSet, MethodDescriptor, NativeFunction, Object}
pub use Rattle.py_node.specs.declared.payload.PyProperty.{PyProperty}
pub use Rattle.py_node.specs.declared.protocol.CompareTask.{CompareTask}
pub use Rattle.py_node.specs.declared.protocol.ObjectTask.{ObjectTask}
pub use Rattle.py_node.specs.declared.protocol.ProtocolTask.{ProtocolTask}
pub use Rattle.py_node.specs.declared.raised.Cause.{Cause}
pub use Rattle.py_node.specs.declared.raised.Cause.TheVariants.{QualnameType}
pub use Rattle.py_node.specs.declared.raised.Raised.{Raised}
pub use Rattle.py_node.specs.declared.refs.ExprRef.{ExprRef}
pub use Rattle.py_node.specs.declared.refs.PyObjectRef.{PyObjectRef}
pub use Rattle.py_node.specs.declared.refs.PyStrInterned.{PyStrInterned}
pub use Rattle.py_node.specs.declared.refs.PyTypeRef.{PyTypeRef}
pub use Rattle.py_node.specs.declared.task.Answer.{Answer}
pub use Rattle.py_node.specs.declared.task.Answer.TheVariants.{Done, Exhausted, Maybe, Method, Number, Objects, Start, Truth, Value}
pub use Rattle.py_node.specs.declared.task.AttributeTask.{AttributeTask}
pub use Rattle.py_node.specs.declared.task.CallTask.{CallTask}
pub use Rattle.py_node.specs.declared.task.ClassTask.{ClassTask}
pub use Rattle.py_node.specs.declared.task.DescriptorTask.{DescriptorTask}
pub use Rattle.py_node.specs.declared.task.EvalTask.{EvalTask}
pub use Rattle.py_node.specs.declared.task.OperatorTask.{OperatorTask}
pub use Rattle.py_node.specs.declared.task.PyMethod.{PyMethod}
pub use Rattle.py_node.specs.declared.task.PySetterValue.{PySetterValue}
pub use Rattle.py_node.specs.declared.task.PySetterValue.TheVariants.{Assign, Delete}
pub use Rattle.py_node.specs.declared.task.Step.{Step}
pub use Rattle.py_node.specs.declared.task.Step.TheVariants.{Ask, End}
pub use Rattle.py_node.specs.declared.task.Task.{Task}
pub use Rattle.std.specs.Box.{with_value}
pub use Rattle.std.specs.Global.{Vec}
pub use Rattle.std.specs.Int.RustNames.{bit_and}
pub use Rattle.std.specs.List.{All, AllByRecursion, remove, splice}
pub use Rattle.std.specs.Option.{option_or}
pub use Rattle.std.specs.Prelude.{Bool, Err, IfErr, IfNone, IfOk, IfSome, IsSome, IsTrue, List, None, Ok, OnErr, OnOk, Option, Result, Some, [], cond, eqb, false, fold, is_none, is_some, length, ltb, map, nat_le, nat_lt, option_and_then, option_map, pos, position, slice_get, slice_set, string_bytes, suc, take, true, vec_capacity, vec_len, ℕ}
