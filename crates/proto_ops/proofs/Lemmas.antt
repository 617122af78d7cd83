-- The words that the answers of this crate are written in: its lemmas and definitions, and those of crates below.
pub use Rattle.class_world.proofs.Claims.{more-nodes, no-nodes}
pub use Rattle.class_world.proofs.Filled.{two-hold}
pub use Rattle.class_world.specs.Reading.{datum, plain}
pub use Rattle.proto_ops.proofs.Below.{AText, Answered, Ask, Ends, Equal, FitsSigned, OfStr, Ordered, Truth, asks-follow, compare_group, ended_with, is_not_implemented, native_repeat, quotient, remainder, repeat, the_str, total}
pub use Rattle.proto_ops.proofs.Entered.{sum-made}
pub use Rattle.proto_ops.proofs.Fits.{total-is}
pub use Rattle.proto_ops.proofs.NativeNumbers.Pair.{pair-ends}
pub use Rattle.proto_ops.proofs.NativeNumbers.Shifts.{out_of_range, small_power}
pub use Rattle.proto_ops.proofs.NativeRepeats.Lists.{repeat-hold, repeat-more, repeat-none}
pub use Rattle.proto_ops.proofs.NativeRepeats.Said.{text-says, tuple-says}
pub use Rattle.proto_ops.proofs.NativeRepeats.Steps.{given-caught}
pub use Rattle.proto_ops.proofs.ProtoCompare.Identity.{others-ask}
pub use Rattle.proto_ops.proofs.ProtoCompare.Turns.{asks-equal, asks-left, asks-right}
pub use Rattle.proto_ops.proofs.Times.{inplace-times-asks, times-asks}
pub use Rattle.proto_ops.specs.ProtoCompare.Rows.{Resumes}
unfoldable pub use Rattle.py_node.specs.BuiltIns.{place_of}
pub use Rattle.proto_ops.specs.Below.{EndsAs, PlainWorld, PyObjectRef, Said, Text, with_times}
pub use Rattle.row_kit.proofs.ContainersEnds.{same-if}
pub use Rattle.row_kit.proofs.Ended.{stop_ends}
pub use Rattle.row_kit.specs.Say.{object_made, text_made}
pub use Rattle.std.proofs.Common.{Err, List, Ok, Some, [], ap, arith, false, inl, inr, length, pos, rules, subst, sym, true, true-eqb, ◌∙◌}
pub use Rattle.std.proofs.lemmas.Int.{to_z-of_z}
pub use Rattle.std.proofs.lemmas.Result.{err_from_is_err_and}
pub use Rattle.std.specs.Int.{cast_unsigned, w128, w64}
pub use Rattle.std.specs.Prelude.{eqb, string_bytes}
