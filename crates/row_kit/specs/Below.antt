-- The words of crates below that the definitions and contracts of this crate are written in.
pub use Rattle.class_model.specs.Class.{own_of}
pub use Rattle.class_model.specs.Name.{last_part}
pub use Rattle.class_model.specs.Order.{Includes}
pub use Rattle.class_table.specs.Keys.{numbers}
pub use Rattle.class_table.specs.Name.{IsLastPart}
pub use Rattle.class_world.specs.Claims.{of_args, of_ended, of_task}
pub use Rattle.class_world.specs.Keyed.{of_entries}
pub use Rattle.class_world.specs.Listed.{items_in}
pub use Rattle.class_world.specs.Reading.{Reading, Reads, bindings, datum, ended_of, plain, spelled, task_of}
pub use Rattle.class_world.specs.Rows.{EndsAs, LeavesEnd}
pub use Rattle.class_world.specs.Sound.{AllHold, AreNodes, Grows, Holding, Holds, IsClass, IsName, IsNode, IsOf, class_in, home_of, of_binding, of_each, of_node_ref, of_option, of_payload}
pub use Rattle.plain_machine.specs.ClassText.{name_at}
pub use Rattle.plain_machine.specs.Dicts.{Entries, entries_in}
pub use Rattle.plain_machine.specs.Known.{the_int, the_list, the_str, the_tuple}
pub use Rattle.plain_machine.specs.Native.{native_task}
pub use Rattle.plain_machine.specs.Objects.{class_number, nearest_built_in, with_datum}
pub use Rattle.plain_machine.specs.Plain.{ABuiltinMethod, AClass, ADict, AGetSet, AList, AMethod, AMethodDescriptor, ANativeFunction, ANumber, AStaticMethod, AText, ATuple, AnIterator, Answered, AsExhausted, AsNumber, AsObjects, AsTruth, AsValue, Bindings, Datum, DoBody, DoBoolEq, DoCall, DoNext, DoSpecial, DoTypeCall, Ended, Ends, PlainTask, PlainWorld, ReadObjects, Said, ToAttribute, ToCall, ToCompare, ToProtocol, Told}
pub use Rattle.plain_machine.specs.Row.{Row, ask, end, fault, fits, is_not_implemented, most_items, none, not_implemented, on_index, on_number, on_truth, on_value, pass, value}
pub use Rattle.plain_machine.specs.Sound.{holds_as}
pub use Rattle.plain_machine.specs.Takes.{named_end, with_one, with_two}
pub use Rattle.plain_machine.specs.World.{class_at, datum_at, is_text, next_node, number_of, ref, with_node}
pub use Rattle.py_node.specs.BuiltIns.{fixed_false, fixed_true, place_of}
pub use Rattle.py_node.specs.Known.{known_text}
pub use Rattle.py_node.specs.Tree.{Text}
pub use Rattle.py_node.specs.declared.built_in.BuiltIn.{BuiltIn}
pub use Rattle.py_node.specs.declared.built_in.BuiltIn.TheVariants.{Dict, Iterator}
pub use Rattle.py_node.specs.declared.entry.ListNative.TheVariants.{InplaceMultiply}
pub use Rattle.py_node.specs.declared.entry.NativeEntry.{NativeEntry}
pub use Rattle.py_node.specs.declared.entry.NativeEntry.TheVariants.{OfCallable, OfList, OfStr, OfTuple, OfType, OfWrapper}
pub use Rattle.py_node.specs.declared.entry.SlotEntry.{SlotEntry}
pub use Rattle.py_node.specs.declared.entry.SlotEntry.TheVariants.{Native}
pub use Rattle.py_node.specs.declared.known.Known.{Known}
pub use Rattle.py_node.specs.declared.raised.Cause.{Cause}
pub use Rattle.py_node.specs.declared.raised.Cause.TheVariants.{ArgCount, IntRange, RepeatTooLong, SelfType, TooLong, UnsafeNew}
pub use Rattle.py_node.specs.declared.raised.Raised.{Raised}
pub use Rattle.py_node.specs.declared.refs.PyObjectRef.{PyObjectRef}
pub use Rattle.std.specs.Int.{cast_signed, int_rem_euclid, w64}
pub use Rattle.std.specs.List.{repeat, starts_with}
pub use Rattle.std.specs.Prelude.{Bool, Err, IfErr, IfNone, IfOk, IfSome, IsTrue, List, None, Ok, OnOk, Option, Result, Some, [], codes, cond, drop, eqb, false, length, map, nat_le, negsuc, option_map, pos, slice_index_or, string_bytes, take, true, unsigned_abs, ℕ, ℤ}
