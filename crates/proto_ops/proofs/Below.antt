-- The words that the lemmas of this crate are written in: its own definitions, and words and lemmas of crates below.
pub use Rattle.class_world.specs.Rows.{EndsAs}
unfoldable pub use Rattle.class_world.specs.Sound.{Holds}
pub use Rattle.plain_machine.specs.Known.{the_str, the_tuple}
pub use Rattle.plain_machine.specs.Plain.{AList, ANumber, AText, ATuple, Answered, AsTruth, Asks, DoBoolEq, DoIdEq, DoInplaceRepeat, DoInt, DoRepeat, Ends, PlainTask, PlainWorld, Said, ToCompare, ToOperator, Told}
pub use Rattle.proto_ops.specs.Below.{AreNodes, Held, IfErr, IfOk, NativeEntry, OfList, OfStr, OfTuple, PyComparisonOp, PyObjectRef, Raised, Reading, Reads, RepeatTooLong, Result, Row, SomeIff, Text, Vec, World, ask, datum_at, end, eqb, is_not_implemented, next_node, number_of, or_else, pass, plain, repeat, value, w128, with_node, within_index, ℤ}
pub use Rattle.proto_ops.specs.NativeNumbers.Numbers.{quotient, remainder}
pub use Rattle.proto_ops.specs.NativeNumbers.Say.{divided, divided_by, pair_made}
pub use Rattle.proto_ops.specs.NativeRepeats.Say.{ended_with, list_stood, repeat_stood}
pub use Rattle.proto_ops.specs.ProtoCompare.Comparisons.{swapped}
pub use Rattle.proto_ops.specs.ProtoCompare.Rows.{compare_group, compare_stands, other_asked}
unfoldable pub use Rattle.proto_ops.specs.ProtoCompare.Say.{compare_job_say}
pub use Rattle.proto_ops.specs.Rows.{Resumes, Sums, operator_group, operator_stands}
pub use Rattle.proto_ops.specs.Say.{int_or_fault, sum_say, total}
unfoldable pub use Rattle.proto_ops.specs.Say.{operator_say}
pub use Rattle.proto_ops.specs.Sequences.{counted_rest}
pub use Rattle.proto_ops.specs.declared.OperatorKept.TheVariants.{InplaceTimes, Pass, Times}
pub use Rattle.proto_ops.specs.declared.proto_compare.CompareKept.TheVariants.{Equal, First, Ordered, Second}
pub use Rattle.py_node.specs.declared.entry.ListNative.{ListNative}
pub use Rattle.py_node.specs.declared.entry.StrNative.{StrNative}
pub use Rattle.py_node.specs.declared.entry.TupleNative.{TupleNative}
pub use Rattle.py_node.specs.declared.task.Answer.TheVariants.{Truth, Value}
pub use Rattle.py_node.specs.declared.task.Step.TheVariants.{Ask, End}
pub use Rattle.row_kit.proofs.Fits.{fits-false, fits-true}
pub use Rattle.row_kit.proofs.Points.{asks-follow, ends-follow}
pub use Rattle.row_kit.specs.Repeats.{list_repeated, native_repeat, repeated, sequence_for, with_times}
pub use Rattle.row_kit.specs.Say.{object_made}
pub use Rattle.std.proofs.Common.{All, Err, List, None, Ok, Option, Some, [], ap, append_assoc, arith, cond, false, length, neg_ℤ, negsuc, pos, refl, subst, suc, sym, true, zero, ℕ, ◌∙◌}
pub use Rattle.std.proofs.Math.Pow.{pow_mono}
pub use Rattle.std.proofs.lemmas.List.Elements.{All-append}
pub use Rattle.std.specs.Int.RustNames.{FitsSigned}
