-- The words of crates below that the definitions and contracts of this crate are written in.
pub use Rattle.class_model.specs.BuiltIn.{natives_of}
pub use Rattle.class_model.specs.Class.{Class, found, found_past, is_sub, lin, subclasses}
pub use Rattle.class_model.specs.Collect.{all_attributes}
pub use Rattle.class_model.specs.Dict.{any_has_dict, heap_class, slot_members, slots_bring}
pub use Rattle.class_model.specs.Layout.{first_place, member_count, place_at, place_count, solid}
pub use Rattle.class_model.specs.Order.{all_some}
pub use Rattle.class_model.specs.Slot.{entry, slot}
pub use Rattle.class_table.specs.Keys.{numbers}
pub use Rattle.class_table.specs.Refused.{refused_layout, refused_order}
pub use Rattle.class_world.specs.Claims.{Leaves, LeavesOpen, left_open, of_args, of_call_task, of_class_task, of_ended, of_eval_task, of_method, of_step, of_task}
pub use Rattle.class_world.specs.Held.{Held}
pub use Rattle.class_world.specs.Keyed.{of_entries, of_keyed, of_pairs}
pub use Rattle.class_world.specs.NewHeap.{of_slots, qualified, refused_name, slot_texts}
pub use Rattle.class_world.specs.Reading.{Reading, Reads, bindings, call_job, class_job, datum, ended_of, eval_job, function_datum, method_func, method_target, plain, spelled, task_of}
pub use Rattle.class_world.specs.Rows.{EndsAs, LeavesEnd}
pub use Rattle.class_world.specs.Sound.{AllHold, AreNames, AreNodes, Claim, Grows, HasForm, HasParams, HasValues, Holding, Holds, IsClass, IsExpression, IsName, IsNode, IsOf, IsOffset, class_in, has_value, home_of, of_binding, of_class_ref, of_each, of_function, of_node_ref, of_option, of_payload}
pub use Rattle.class_world.specs.declared.world.World.{World}
pub use Rattle.plain_machine.specs.Args.{filled, two_of}
pub use Rattle.plain_machine.specs.ClassText.{name_at}
pub use Rattle.plain_machine.specs.Dicts.{entries_from}
pub use Rattle.plain_machine.specs.Known.{the_class_method, the_dict, the_function, the_getset, the_int, the_list, the_object, the_str, the_tuple, the_type}
pub use Rattle.plain_machine.specs.Native.{native_task}
pub use Rattle.plain_machine.specs.Objects.{class_number, class_object, is_instance, nearest_built_in, special_at, type_object, with_definer}
pub use Rattle.plain_machine.specs.Plain.{AClassMethod, ADict, AFunction, AGetSet, AList, AMember, ANumber, AProperty, AStaticMethod, AText, ATuple, AnObject, Answered, AsAttribute, AsExhausted, AsFunction, AsObjects, AsValue, Asks, Bindings, CallJob, Chose, ClassJob, Datum, DoAdd, DoBinary, DoBind, DoBody, DoCall, DoCmp, DoCollect, DoCompare, DoConcat, DoContains, DoCount, DoDelItem, DoDelSlice, DoDir, DoEval, DoFind, DoFormat, DoGeneric, DoGenericSet, DoGetAttr, DoGetItem, DoGetIter, DoGetSlice, DoHasAttr, DoHash, DoHint, DoIndex, DoInit, DoInplace, DoInplaceAdd, DoInplaceConcat, DoInplaceMul, DoInplacePower, DoInplaceRepeat, DoInvoke, DoIsInstance, DoIsSubclass, DoIsTrue, DoItems, DoKeys, DoLength, DoLoadMethod, DoMakeClass, DoMul, DoNew, DoNext, DoObject, DoPower, DoRepeat, DoRepr, DoSetAttr, DoSetItem, DoSetSlice, DoSpecial, DoStr, DoType, DoTypeCall, DoTypeGet, DoTypeSet, DoUnary, DoValues, DoWhole, Ended, Ends, EvalJob, Fact, Made, PlainTask, PlainWorld, Said, ToAttribute, ToCall, ToClass, ToCompare, ToEval, ToObject, ToOperator, ToProtocol, Told}
pub use Rattle.plain_machine.specs.Row.{Row, ask, done, elsewhere, end, evaluate, fault, fits_index, fork, is_attribute_error, is_not_implemented, limited, make, most_items, none, not_implemented, noting, on_done, on_number, on_truth, on_value, pass, read_names, read_objects, start, truth, value}
pub use Rattle.plain_machine.specs.Show.{show}
pub use Rattle.plain_machine.specs.Sound.{key_at}
pub use Rattle.plain_machine.specs.Takes.{named_end, native_end, with_one, with_text, with_three, with_two}
pub use Rattle.plain_machine.specs.World.{class_at, datum_at, is_text, next_node, number_of, or_else_var, ref, slot_at, text_keys, variable, with_binding, with_new_class, with_node, with_own_attr, with_scope, without_scope}
pub use Rattle.py_node.specs.Attributes.{is_same_name, value_of, with_value}
pub use Rattle.py_node.specs.BuiltIns.{place_of}
pub use Rattle.py_node.specs.Faults.{raised}
pub use Rattle.py_node.specs.Known.{known_text}
pub use Rattle.py_node.specs.Replies.{Started, started_of}
pub use Rattle.py_node.specs.Tree.{Entries, KeyedTrees, LFalse, LInt, LNone, LText, LTrue, Literal, TAttr, TBind, TCall, TClass, TConst, TDelAttr, TDict, TFunc, TIf, TList, TName, TOp, TRaise, TSeq, TSetAttr, TTuple, Text, Tree, Trees, entry_trees, list_of, literal_of, no_entries, no_keyed, no_trees}
pub use Rattle.py_node.specs.declared.built_in.BuiltIn.{BuiltIn}
pub use Rattle.py_node.specs.declared.built_in.BuiltIn.TheVariants.{TypeType}
pub use Rattle.py_node.specs.declared.entry.NativeEntry.TheVariants.{Getter, Setter}
pub use Rattle.py_node.specs.declared.entry.ObjectNative.{ObjectNative}
pub use Rattle.py_node.specs.declared.entry.ObjectNative.TheVariants.{Ne}
pub use Rattle.py_node.specs.declared.entry.SlotEntry.{SlotEntry}
pub use Rattle.py_node.specs.declared.entry.SlotEntry.TheVariants.{Native, Wrapper}
pub use Rattle.py_node.specs.declared.entry.SlotId.TheVariants.{Call, Init, New}
pub use Rattle.py_node.specs.declared.entry.TypeNative.{TypeNative}
pub use Rattle.py_node.specs.declared.expr.ObjectWord.{ObjectWord}
pub use Rattle.py_node.specs.declared.expr.SequenceWord.{SequenceWord}
pub use Rattle.py_node.specs.declared.expr.Word.{Word}
pub use Rattle.py_node.specs.declared.known.Known.TheVariants.{Metaclass}
pub use Rattle.py_node.specs.declared.memory.OutOfMemory.{OutOfMemory}
pub use Rattle.py_node.specs.declared.payload.Form.{Form}
pub use Rattle.py_node.specs.declared.payload.Function.{Function}
pub use Rattle.py_node.specs.declared.payload.MemberKind.TheVariants.{ObjectEx}
pub use Rattle.py_node.specs.declared.raised.Cause.{Cause}
pub use Rattle.py_node.specs.declared.raised.Cause.TheVariants.{AbstractMethods, ArgCount, BasesNotTypes, Body, CannotCreate, FormatSpec, IndexRange, InitNotNone, IterEnd, KeyType, MetaclassConflict, MroEntries, NamespaceKey, NoSpecial, NotCallable, NullInName, QualnameType, RepeatedKeyword, SelfType, SetNameCalled, SlotsType, TooLong, TypeArgTypes, TypeArgs, Unbound, UnexpectedKeyword, UnsafeNew}
pub use Rattle.py_node.specs.declared.raised.Kind.{Kind}
pub use Rattle.py_node.specs.declared.raised.Raised.{Raised}
pub use Rattle.py_node.specs.declared.refs.ExprRef.{ExprRef}
pub use Rattle.py_node.specs.declared.refs.PyObjectRef.{PyObjectRef}
pub use Rattle.py_node.specs.declared.refs.PyStrInterned.{PyStrInterned}
pub use Rattle.py_node.specs.declared.task.Answer.{Answer}
pub use Rattle.py_node.specs.declared.task.Answer.TheVariants.{Value}
pub use Rattle.py_node.specs.declared.task.CallTask.{CallTask}
pub use Rattle.py_node.specs.declared.task.ClassTask.{ClassTask}
pub use Rattle.py_node.specs.declared.task.EvalTask.{EvalTask}
pub use Rattle.py_node.specs.declared.task.PyComparisonOp.TheVariants.{Eq}
pub use Rattle.py_node.specs.declared.task.PyNumberBinaryOp.{PyNumberBinaryOp}
pub use Rattle.py_node.specs.declared.task.Step.{Step}
pub use Rattle.py_node.specs.declared.task.Step.TheVariants.{Ask, End}
pub use Rattle.row_kit.specs.Points.{Follows, Group, Point}
pub use Rattle.row_kit.specs.Called.{call_native}
pub use Rattle.row_kit.specs.ClassAttributes.{keyed, or_no_attributes}
pub use Rattle.row_kit.specs.ClassNames.{in_module, module_of, or_nothing, qualname}
pub use Rattle.row_kit.specs.Questions.{has_null}
pub use Rattle.row_kit.specs.Say.{in_length, number_told, object_made, sized_made, text_made}
pub use Rattle.row_kit.specs.TakeClasses.{needed, with_class, with_lone_class}
pub use Rattle.std.specs.Fmt.{digits}
pub use Rattle.std.specs.Int.{cast_signed, w64}
pub use Rattle.std.specs.List.{All, find}
pub use Rattle.std.specs.Option.{option_or}
pub use Rattle.std.specs.Prelude.{Bool, Err, IfErr, IfOk, IfSome, IsTrue, List, None, Ok, OnOk, Option, Result, Some, [], bytes_eq, codes, cond, drop, eqb, false, filter, is_none, is_some, length, ltb, map, nat_le, not, option_and_then, option_map, slice_get, string_bytes, suc, take, true, zero, ℕ, ℤ}
