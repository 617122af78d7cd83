-- The words of crates below that the definitions and contracts of this crate are written in.
pub use Rattle.class_model.specs.Class.{is_sub}
pub use Rattle.class_world.specs.Claims.{Leaves, of_args, of_compare_task, of_ended, of_operator_task, of_step, of_task}
pub use Rattle.class_world.specs.Held.{Held}
pub use Rattle.class_world.specs.Reading.{Reading, Reads, bindings, compare_job, ended_of, operator_job, plain, task_of}
pub use Rattle.class_world.specs.Rows.{EndsAs, LeavesEnd}
pub use Rattle.class_world.specs.Sound.{AllHold, AreNodes, Claim, Grows, Holding, Holds, IsNode, of_option}
pub use Rattle.class_world.specs.declared.world.World.{World}
pub use Rattle.plain_machine.specs.Args.{two_of}
pub use Rattle.plain_machine.specs.Known.{the_int, the_tuple}
pub use Rattle.plain_machine.specs.Native.{native_task}
pub use Rattle.plain_machine.specs.Objects.{special_at}
pub use Rattle.plain_machine.specs.Plain.{AList, ANumber, ATuple, AsMaybe, AsTruth, AsValue, Asks, Bindings, Chose, CompareJob, Datum, DoAdd, DoBinOp1, DoBinary, DoBoolEq, DoCmp, DoCompare, DoConcat, DoEnter, DoEnterPower, DoIdEq, DoIndex, DoInplace, DoInplaceAdd, DoInplaceConcat, DoInplaceMul, DoInplaceOp1, DoInplacePower, DoInplaceRepeat, DoInt, DoIsTrue, DoMul, DoNativeRepeat, DoPower, DoRepeat, DoRichBool, DoSeqGt, DoSeqLt, DoSpecial, DoUnary, Ended, Ends, OperatorJob, PlainTask, PlainWorld, ReadObjects, Said, ToAttribute, ToCompare, ToNative, ToOperator, ToProtocol, Told}
pub use Rattle.plain_machine.specs.Row.{Row, ask, choose, elsewhere, end, fault, fits, fork, is_not_implemented, make, most_items, not_implemented, on_truth, on_value, or_else, pass, read_once, start, truth, value, within_index}
pub use Rattle.plain_machine.specs.Takes.{with_one, with_three, with_two}
pub use Rattle.plain_machine.specs.World.{candidates_at, class_at, datum_at, goes_first_at, next_node, number_of, slot_at, with_node}
pub use Rattle.py_node.specs.BuiltIns.{fixed_false, fixed_none, fixed_not_implemented, fixed_true}
pub use Rattle.py_node.specs.Known.{known_text}
pub use Rattle.py_node.specs.Natives.{is_same_entry}
pub use Rattle.py_node.specs.Operators.{is_reflected, operator_row}
pub use Rattle.py_node.specs.Slots.{names_of}
pub use Rattle.py_node.specs.Tree.{Text}
pub use Rattle.py_node.specs.declared.entry.ArithmeticNative.{ArithmeticNative}
pub use Rattle.py_node.specs.declared.entry.BitNative.{BitNative}
pub use Rattle.py_node.specs.declared.entry.CompareNative.{CompareNative}
pub use Rattle.py_node.specs.declared.entry.FixedNative.{FixedNative}
pub use Rattle.py_node.specs.declared.entry.NativeEntry.{NativeEntry}
pub use Rattle.py_node.specs.declared.entry.NativeEntry.TheVariants.{Compare, OfList, OfObject, OfStr, OfTuple}
pub use Rattle.py_node.specs.declared.entry.NumberNative.{NumberNative}
pub use Rattle.py_node.specs.declared.entry.ObjectNative.{ObjectNative}
pub use Rattle.py_node.specs.declared.entry.SlotEntry.{SlotEntry}
pub use Rattle.py_node.specs.declared.entry.SlotEntry.TheVariants.{Native, Unhashable, Wrapper}
pub use Rattle.py_node.specs.declared.entry.SlotId.{SlotId}
pub use Rattle.py_node.specs.declared.entry.SlotId.TheVariants.{Concat, InplaceConcat, InplacePower, InplaceRepeat, Power, Repeat, Richcompare, RightPower, SeqItem}
pub use Rattle.py_node.specs.declared.known.Known.{Known}
pub use Rattle.py_node.specs.declared.protocol.CompareTask.{CompareTask}
pub use Rattle.py_node.specs.declared.raised.Cause.TheVariants.{ArgCount, IntRange, NegativeExponent, NegativeShift, NotConcatenable, NotRepeatable, RepeatTooLong, SelfType, UnexpectedKeyword, UnsupportedOperand, UnsupportedUnary, ZeroDivisor}
pub use Rattle.py_node.specs.declared.raised.Raised.{Raised}
pub use Rattle.py_node.specs.declared.refs.PyObjectRef.{PyObjectRef}
pub use Rattle.py_node.specs.declared.refs.PyStrInterned.{PyStrInterned}
pub use Rattle.py_node.specs.declared.task.Answer.{Answer}
pub use Rattle.py_node.specs.declared.task.Answer.TheVariants.{Value}
pub use Rattle.py_node.specs.declared.task.OperatorTask.{OperatorTask}
pub use Rattle.py_node.specs.declared.task.PyComparisonOp.{PyComparisonOp}
pub use Rattle.py_node.specs.declared.task.PyComparisonOp.TheVariants.{Eq, Ge, Gt, Le, Lt, Ne}
pub use Rattle.py_node.specs.declared.task.PyNumberBinaryOp.{PyNumberBinaryOp}
pub use Rattle.py_node.specs.declared.task.PyNumberUnaryOp.{PyNumberUnaryOp}
pub use Rattle.py_node.specs.declared.task.PyNumberUnaryOp.TheVariants.{Absolute, Invert, Negative, Positive}
pub use Rattle.py_node.specs.declared.task.Step.{Step}
pub use Rattle.py_node.specs.declared.task.Task.{Task}
pub use Rattle.row_kit.specs.Asking.{as_said, with_read}
pub use Rattle.row_kit.specs.GiveContainers.{tuple_made}
pub use Rattle.row_kit.specs.IntValues.{as_int, is_zero, number_hash, truth_of}
pub use Rattle.row_kit.specs.Points.{Goes, Group, Point}
pub use Rattle.row_kit.specs.Repeats.{list_repeated, native_repeat, on_count, sequence_for, times, with_times}
pub use Rattle.row_kit.specs.Say.{in_range, int_made, number_told, numbers_of, text_made, with_lone_number, with_number_and, with_numbers}
pub use Rattle.std.specs.Fmt.{signed_decimal}
pub use Rattle.std.specs.Global.{Vec}
pub use Rattle.std.specs.Int.{IsNonZero, int_bit_and, int_bit_not, int_bit_or, int_bit_xor, int_div_euclid, int_pow, int_rem_euclid, int_shr, w128}
pub use Rattle.std.specs.List.{list_any, repeat}
pub use Rattle.std.specs.Option.{option_or}
pub use Rattle.std.specs.Ordering.{int_eq, is_eq, is_ge, is_gt, is_le, is_lt, is_ne}
pub use Rattle.std.specs.Prelude.{Bool, Err, FitsSigned, IfErr, IfNone, IfOk, IfSome, List, None, Ok, Option, Result, Some, SomeIff, [], codes, cond, eqb, false, int_lt, is_some, length, min, nat_le, nat_lt, neg_ℤ, negsuc, not, option_map, pos, string_bytes, suc, true, unsigned_abs, zero, ℕ, ℤ}
pub use Rattle.std.specs.declared.cmp.Ordering.{Ordering}
pub use Rattle.std.specs.declared.cmp.Ordering.TheVariants.{Equal, Greater, Less}
