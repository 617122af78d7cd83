-- The words that the answers of this crate are written in: its lemmas and definitions, and those of crates below.
pub use Rattle.class_model.proofs.Rule.{lin-classes}
pub use Rattle.class_model.specs.Class.{class_at, is_sub, lin, subclasses}
pub use Rattle.class_world.proofs.Apart.{value-with}
pub use Rattle.class_world.proofs.Claims.{all-append, all-first, all-grow, all-rest, each-get, each-push, got, more-nodes, no-nodes, node-in}
pub use Rattle.class_world.proofs.DictChanges.{none-hold}
pub use Rattle.class_world.proofs.DictEntries.{get-below}
pub use Rattle.class_world.proofs.Filled.{two-hold}
pub use Rattle.class_world.proofs.Growth.{grows-itself, grows-on}
pub use Rattle.class_world.proofs.KeyEntries.{entries-themselves, keys-can}
pub use Rattle.class_world.proofs.OfClasses.{line-seen}
pub use Rattle.class_world.proofs.Stored.{map-next, no-names, ok-map}
pub use Rattle.class_world.specs.Rows.{EndsAs}
pub use Rattle.class_world.specs.Reading.{Reading, Reads, bindings, datum, ended_of, member_datum, plain, spelled}
pub use Rattle.plain_machine.specs.World.{datum_at, is_text, next_node, or_else_var, or_empty, ref, text_keys, with_new_class, with_node}
pub use Rattle.proto_call.proofs.Below.{Does, DoType, Includes, by_keywords_of, by_place_of, eqb-true, ltb-true, opened_of, value-holds, with_value-holds, with_value-read, class_group, ends-follow, read-follows}
unfoldable pub use Rattle.proto_call.proofs.Below.{Holds, call_job_say, class_job_say, completed}
pub use Rattle.proto_call.proofs.ClassMake.Descriptors.{member-put, name-at, places-read, texting-begins, texting-refused, texting-step}
pub use Rattle.proto_call.proofs.ClassMake.EachBase.{classing-step, node-holds, winning-ends, winning-none, winning-step}
pub use Rattle.proto_call.proofs.ClassMake.Making.{attrs-read, filter-holds, goes-from, made-new, made-refused, made-slots, makes-from, map-got, node-at, refused-next, take-got, values-are, values-read, without-read}
pub use Rattle.proto_call.proofs.ClassMake.OfTypeNatives.{subclass-there, subclasses-seen}
pub use Rattle.proto_call.proofs.ClassMake.Parts.{bases-read, bases-refused, call-goes, class-of, classes-go, first-goes, from-args, makes-begin, no-type, none-goes, other-goes, parts-go, rest-is, rest-nodes, three-go, three-hold, types-begin, types-from, winner-goes}
pub use Rattle.proto_call.proofs.ClassMake.Places.{made-own, members-placed, members-solid, own-counted, places-begin}
pub use Rattle.proto_call.proofs.ClassMake.Spaces.{completed-classes, dict-given, dict-wanted, dicted-classes, give-had, give-new, has-read, insert-holds, key-named, naming-step, pair-in, put-goes, qualified, unhash-kept, unhash-new, value-there, wrap-kept, wrap-put, wrapped}
pub use Rattle.proto_call.proofs.ClassMake.Telling.{ask-call, ask-value, drop-none, hook-bound, hook-called, hook-other, hook-raised, made-goes, skipping-ends, skipping-step, tell-goes}
pub use Rattle.proto_call.proofs.Decide.{does, does-after, ends-does, object-ends, told-resumes, type-ends}
pub use Rattle.proto_call.proofs.Entered.{all-fill, body-begins, empty-is, enters-by, filled-opens, last-read, rest-fills, shown-read, some-holds, texts-read}
pub use Rattle.proto_call.proofs.EvalForms.Arguments.{all-given, argument-asked, argument-holds, argument-other, arguments-given, has-argument, named-hold, no-more, plainly-given, argument-more, call-first, method-first}
pub use Rattle.proto_call.proofs.EvalForms.ClassForm.{asks-takes, class-made, class-said, cons-nodes, drop-got, drop-nodes, entry-holds, first-holds, given-holds, keyed-next, pairs-grow, pairs-push, take-nodes, takes-same, within-is}
pub use Rattle.proto_call.proofs.EvalForms.Counting.{asks-stop, asks-then, ends-start}
pub use Rattle.proto_call.proofs.EvalForms.DictForm.{below-pairs, dict-made, fits-more, has-pair, key-asked, key-ends, made-after, no-pairs, own-dict, pair-found, pairs-pushed, part-holds, refused-ends, value-asked, value-ends}
pub use Rattle.proto_call.proofs.EvalForms.Found.{find-map}
pub use Rattle.proto_call.proofs.EvalForms.Keys.{keys-differ, no-keys-yet, spelled-next}
pub use Rattle.proto_call.proofs.EvalForms.Operands.{append-on, attr-name, call-func, class-long, class-names, del-name, ends-with, goes-on, has-operand, has-values, if-branches, names-in, one-holds, operand-holds, own-closes, own-const, own-func, own-list, own-takes, own-takes-read, own-tuple, says-attr, says-call, says-class, says-del, says-if, says-op, says-raise, says-seq, says-set, set-name, one-more}
pub use Rattle.proto_call.proofs.EvalForms.Outcomes.{asks-made}
pub use Rattle.proto_call.proofs.EvalForms.Sequels.{last-is, one-item, three-items, two-items}
pub use Rattle.proto_call.proofs.EvalForms.Unrepeated.{are-repeated, are-single, metaclass-read, others-hold, others-read}
pub use Rattle.proto_call.proofs.Filling.{all_filled-read, binding-at, but_last-read, but_last-take, is_member-read, keyword-next, last-given, last-in, left_over-read, names-take, nodes-drop, open-read, same-at, values-there}
pub use Rattle.proto_call.proofs.Unequal.{turned-asks}
pub use Rattle.proto_call.specs.Below.{ADict, AList, AText, AllHold, Answered, AreNames, AreNodes, ArgCount, Ask, Asks, Chose, DoCall, DoGetAttr, DoIndex, End, Ends, IfOk, IfSome, IsClass, IsName, IsNode, IsOffset, KeyType, Made, PlainWorld, PyObjectRef, PyStrInterned, SlotsType, ToAttribute, ToCall, ToProtocol, TypeArgs, World, all_attributes, class_number, digits, end, entries_from, fault, filled, find, has_null, has_value, heap_class, in_length, in_module, is_instance, is_same_name, keyed, known_text, module_of, most_items, name_at, nat_le, needed, noting, numbers, object_made, of_args, of_binding, of_each, of_ended, of_node_ref, of_option, of_slots, of_step, of_task, option_map, or_no_attributes, or_nothing, pass, refused_layout, sized_made, slice_get, slot_texts, special_at, start, text_made, the_dict, the_list, the_tuple, truth, two_of, value, w64, with_two, with_value}
pub use Rattle.proto_call.specs.ClassMake.Rows.{call_row, of_telling}
pub use Rattle.proto_call.specs.ClassMake.Say.{by_bases, by_one, by_parts, by_winner, call_hooks, called_with, classes_of, dicted, from_three, init_subclass, is_class, made, made_in, names_in, on_bases, qualify, refusal, tell, text_of, type_call, type_new, type_new_of, unhash, winner, with_names, with_namespace, with_own_members, with_slots, wrap}
pub use Rattle.proto_call.specs.ClassMake.TypeNatives.{type_native_say, class_text, classes_made, keys_made, type_dir, type_mro, type_prepare, type_repr, type_subclasses, with_name_and_bases}
pub use Rattle.proto_call.specs.EvalForms.Rows.{Continues, EndsRow, IsOwn, Resumes, args_of, arguments, arguments_at, called_task, keywords_of, named, of_called, of_eval_kept, operands, operands_at, pairs, positional, Goes, arguments_row, pairs_row}
pub use Rattle.proto_call.specs.EvalForms.Say.{attr_say, called_say, class_by, class_say, class_within, del_attr_say, fixed_named, given_metaclass, given_say, if_say, make_dict, metaclass, other_keywords, raise_say, seq_say, set_attr_say}
unfoldable pub use Rattle.proto_call.specs.EvalForms.Say.{built_in_named, class_named}
pub use Rattle.proto_call.specs.EvalForms.Words.{by_manner, counted_task, manner_of, of_one, of_two, one_of, op_say, part_task, task_for, with_index}
pub use Rattle.proto_call.specs.ObjectNatives.{object_native_say, text_from}
pub use Rattle.proto_call.specs.Say.{is_empty, object_by, object_init, object_init_subclass, object_new, shown}
pub use Rattle.proto_call.specs.declared.CallKept.TheVariants.{Unequal}
pub use Rattle.proto_call.specs.declared.eval_forms.EvalKept.TheVariants.{Arguments, Count, Key, Operands, Start, Stop, Value}
unfoldable pub use Rattle.py_node.specs.BuiltIns.{place_of}
pub use Rattle.py_node.specs.Dicts.{PlainDict}
pub use Rattle.py_node.specs.declared.built_in.BuiltIn.TheVariants.{Object, TypeType}
pub use Rattle.py_node.specs.declared.entry.ObjectNative.TheVariants.{Init, InitSubclass, New}
pub use Rattle.py_node.specs.declared.known.Known.TheVariants.{Metaclass, MroEntries, Slots}
pub use Rattle.py_node.specs.declared.payload.MemberDescriptor.{MemberDescriptor}
pub use Rattle.row_kit.proofs.Ended.{sorted_ends, sorted_ok}
pub use Rattle.row_kit.proofs.ObjectsEnded.{ends-after, ends-then}
pub use Rattle.std.proofs.Common.{Err, None, Ok, Option, Some, [], add-one, ap, arith, codes, cond, drop, eqb, false, get_or, is_some, length, length-append, map, refl, rules, slice_index_or, string_bytes, subst, suc, sym, tests, true, ℕ, ◌∙◌}
pub use Rattle.std.proofs.lemmas.Int.{to_z-of_z}
pub use Rattle.std.proofs.lemmas.Iterator.{YieldsList-from_slice}
pub use Rattle.std.proofs.lemmas.Iterator.Search.{all_from_yields_List}
pub use Rattle.std.proofs.lemmas.List.{length-map, take_all, take_rest}
pub use Rattle.std.proofs.lemmas.List.Sums.{AllPass-from_list_all}
pub use Rattle.std.proofs.lemmas.Result.{err_from_is_err_and}
pub use Rattle.std.specs.Int.RustNames.{FitsSigned}
pub use Rattle.std.specs.Str.{bytes_eq}
