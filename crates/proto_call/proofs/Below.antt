-- The words that the lemmas of this crate are written in: its own definitions, and words and lemmas of crates below.
pub use Rattle.class_model.proofs.Layouts.{solid-rule}
pub use Rattle.class_model.proofs.Made.{limit-within}
pub use Rattle.class_model.proofs.Numbers.{at-last, some-of}
pub use Rattle.class_model.proofs.PlaceOffsets.{in-layout}
pub use Rattle.class_model.proofs.Rule.{lin-begins, lin-distinct}
pub use Rattle.class_model.specs.Class.{Class, Classes, bases_of, is_class, lin, renamed, subclasses}
pub use Rattle.class_model.specs.Layout.{before, best_of, built_ins, first_place, has_members, is_solid, layout_along, member_count, members_in, place_along, place_at, place_count, solid}
pub use Rattle.class_model.specs.Numbers.{limit}
pub use Rattle.class_model.specs.Order.{BeginsWith, Includes, all_some, has}
pub use Rattle.class_model.specs.Sound.{AreSound}
pub use Rattle.class_table.proofs.Counts.{count-line, layout-own}
pub use Rattle.class_world.proofs.Apart.{all-cons, all-tail}
pub use Rattle.class_world.proofs.Bound.{value-holds, value-read, with_value-holds, with_value-read}
pub use Rattle.class_world.proofs.Claims.{all-grow, each-get, each-push, expression-in, get-end, got-map, more-nodes, no-nodes, node-in}
pub use Rattle.class_world.proofs.DictEntries.{all-pushed, map-end}
pub use Rattle.class_world.proofs.Growth.{grows-on}
pub use Rattle.class_world.proofs.SoundWorld.{key_at-read, keys-stored}
pub use Rattle.class_world.proofs.Stored.{map-push, names-push}
pub use Rattle.class_world.specs.NewHeap.{qualified, refused_heap, refused_name}
pub use Rattle.class_world.specs.Reading.{Reading, Reads, bindings, ended_of, entry_list, form_tree, spelled, stored_entries, task_of}
unfoldable pub use Rattle.class_world.specs.Reading.{plain}
pub use Rattle.class_world.specs.Sound.{AllHold, AreExpressions, AreFilled, AreNames, AreNodes, CanBeKeys, Grows, HasForm, HasParams, Holding, IsClass, IsExpression, IsName, IsNode, IsOf, KeysDiffer, has_value, held_key, of_binding, of_class_ref, of_each, of_form, of_node_ref, of_option}
unfoldable pub use Rattle.class_world.specs.Sound.{Holds}
pub use Rattle.plain_machine.proofs.Offsets.{members-append}
pub use Rattle.plain_machine.proofs.Pushed.{holder}
pub use Rattle.plain_machine.specs.Plain.{AClass, AClassMethod, ADict, AGetSet, AText, ATuple, Answered, Asks, Bindings, Chose, Datum, DoBind, DoBody, DoCall, DoEval, DoGetAttr, DoIndex, DoIsTrue, DoMakeClass, DoNew, DoObject, DoType, Ends, Node, PlainTask, PlainWorld, ReadNames, ReadObjects, Said, ToAttribute, ToCall, ToEval, ToProtocol, Told, no_members}
pub use Rattle.plain_machine.specs.Sound.{IsSound, TextKey, key_at, key_of}
pub use Rattle.plain_machine.specs.World.{class_at, datum_at, has_dict, is_text, next_node, push_node, ref, text_keys, with_new_class, with_node, with_own_attr}
pub use Rattle.proto_call.specs.Below.{Answer, ArgCount, Ask, Cause, End, EndsAs, ExprRef, Follows, Form, Function, Getter, Held, KeyType, Kind, Leaves, Ne, New, NullInName, ObjectNative, OutOfMemory, PyObjectRef, PyStrInterned, Raised, Row, SetNameCalled, Setter, Step, TooLong, TypeArgs, TypeNative, TypeType, Word, World, ask, class_number, end, entries_from, entry, evaluate, fault, filled, has_null, heap_class, is_not_implemented, known_text, most_items, natives_of, none, noting, numbers, of_pairs, on_truth, on_value, option_or, pass, raised, refused_layout, refused_order, slot_members, special_at, start, the_class_method, the_dict, the_function, the_getset, the_object, the_str, the_tuple, truth, two_of, type_object, value, with_definer}
pub use Rattle.proto_call.specs.Bodies.{Enters, LastFilled, RunsAs, by_keywords_of, by_place_of, datum_of, last_in, opened_of}
pub use Rattle.proto_call.specs.ClassMake.Rows.{Bound, Makes, Types, class_stands, left, of_class_kept, of_class_node, class_group}
pub use Rattle.proto_call.specs.ClassMake.Say.{Entries, Space, a_member, attrs_in, bind_hook, bind_hooks, by_bases, by_classes, by_one, by_parts, by_slots, by_winner, call_hooks, called_with, classes_of, defined, derived, dict_of, from_three, functions_of, has_name, init_subclass, namespace, namespace_from, new_class, on_bases, on_layout, or_zero, own_values, places_from, refusal, tell, text_of, texts_of, the_member, there, three_of, tuple_of, type_by, type_call, type_new, type_new_of, unless_raised, values_of, winner, with_class, with_functions, with_member, with_members, with_namespace, with_own_members, would_have_dict}
unfoldable pub use Rattle.proto_call.specs.ClassMake.Say.{class_job_say, completed, dicted, give, give_dict, made_unless, put, put_member, qualify, unhash, whole_class, wrap, wrap_value}
pub use Rattle.proto_call.specs.EvalForms.ClassForm.{ArePairs, AreSpelled}
pub use Rattle.proto_call.specs.EvalForms.Rows.{Continues, EndsRow, HasValues, IsOther, IsOwn, Resumes, answered, args_of, arguments, arguments_at, attribute, called_task, eval_stands, evaluated_tree, has_argument, has_operand, has_pair, keywords_of, named, of_eval_kept, operands, operands_at, pairs, pairs_at, pairs_of, pairs_told, positional, Goes, arguments_row, eval_group, operands_row, pairs_row}
pub use Rattle.proto_call.specs.EvalForms.Say.{Pairs, attr_say, call_say, call_with, called_say, callee_say, class_by, class_say, class_within, const_say, del_attr_say, entry_names, evaluate_pairs, func_say, given_metaclass, given_say, if_say, keyed, last_or_none, list_say, make_dict, metaclass, on_keywords, operand_trees, other_keywords, own_say, raise_say, seq_say, set_attr_say, tuple_say, unrepeated, with_dict, arguments_say, dict_say, invoke_say, on_method}
unfoldable pub use Rattle.proto_call.specs.EvalForms.Say.{eval_say}
pub use Rattle.proto_call.specs.EvalForms.Words.{asked, made, one_of, op_say, with_index}
pub use Rattle.proto_call.specs.Rows.{Begins, Closes, Does, call_stands, call_group}
pub use Rattle.proto_call.specs.Say.{all_filled, body_by, but_last, by_keywords, by_place, is_empty, is_member, last_of, left_over, rest_fits, shown, single, value_at, value_text, when_filled, with_keywords}
unfoldable pub use Rattle.proto_call.specs.Say.{call_job_say}
pub use Rattle.proto_call.specs.declared.CallKept.{CallKept}
pub use Rattle.proto_call.specs.declared.class_make.ClassKept.{ClassKept}
pub use Rattle.proto_call.specs.declared.class_make.ClassKept.TheVariants.{Binding, Calling}
pub use Rattle.proto_call.specs.declared.class_make.tell.Telling.{Telling}
pub use Rattle.proto_call.specs.declared.eval_forms.EvalKept.{EvalKept}
pub use Rattle.proto_call.specs.declared.eval_forms.EvalKept.TheVariants.{Arguments, Key, Made, Operands, Pass, Stop, Load}
pub use Rattle.proto_call.specs.declared.eval_forms.bounds.Part.{Part}
pub use Rattle.proto_call.specs.declared.eval_forms.call_form.Called.{Called}
pub use Rattle.proto_call.specs.declared.eval_forms.outcome.Outcome.{Outcome}
pub use Rattle.py_node.specs.Attributes.{AreNamesDistinct, is_same_name, value_of, with_value}
pub use Rattle.py_node.specs.Tree.{KeyedTrees, TConst, TDict, Text, Tree, Trees, entry_trees, keyed_of, list_of, literal_of, no_keyed, trees_of}
pub use Rattle.py_node.specs.declared.known.Known.TheVariants.{Metaclass, MroEntries, SetName}
pub use Rattle.py_node.specs.declared.refs.PyTypeRef.{PyTypeRef}
pub use Rattle.py_node.specs.declared.task.Answer.TheVariants.{Done, Exhausted, Maybe, Method, Number, Objects, Start, Truth, Value}
pub use Rattle.py_node.specs.declared.task.Task.{Task}
pub use Rattle.std.proofs.Common.{Bool, Err, List, None, Ok, Option, Some, [], ap, append_assoc, arith, cond, drop, drop-cons, eqb, false, filter, get_or, inl, inr, is_none, length, length-append, map, min, not, refl, rules, slice_index_or, string_bytes, subst, suc, sym, take, tests, true, zero, ℕ, ◌∙◌}
pub use Rattle.std.proofs.lemmas.Bool.{eq-eqb, eqb-true, lt-ltb, ltb-true, ne_eqb, true≢false}
pub use Rattle.std.proofs.lemmas.List.{length-map, map-append, take_all}
pub use Rattle.std.proofs.lemmas.List.Elements.{All-drop, All-take}
pub use Rattle.std.proofs.lemmas.Option.{slice_get_within}
pub use Rattle.std.specs.Global.{Vec}
pub use Rattle.std.specs.List.{All, AllByRecursion, find, list_all, list_any}
unfoldable pub use Rattle.std.specs.List.{IsDistinct}
pub use Rattle.std.specs.Map.{keys_of}
pub use Rattle.std.specs.Prelude.{IfOk, IfSome, IsTrue, Result, is_some, nat_le, nat_lt, option_and_then, option_map, slice_get}
pub use Rattle.py_node.specs.declared.task.PyMethod.{PyMethod}
pub use Rattle.row_kit.proofs.Points.{asks-follow, ends-follow, goes-as, goes-read, read-follows, steps-noting}
pub use Rattle.row_kit.specs.Points.{Point, Steps}
