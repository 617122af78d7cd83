-- The words that the lemmas of this crate are written in: its own definitions, and words and lemmas of crates below.
pub use Rattle.generator.proofs.OneByOne.{run-append, run-length}
pub use Rattle.generator.specs.Commands.{change_command, class_command}
unfoldable pub use Rattle.generator.specs.Commands.{generated}
pub use Rattle.generator.specs.Draws.{after, next}
pub use Rattle.plain_machine.specs.Plain.{PlainWorld}
pub use Rattle.py_node.specs.Replies.{PlainReply, reply_of}
pub use Rattle.py_node.specs.declared.reply.Reply.{Reply}
pub use Rattle.serve.specs.Below.{Check, Counts, IsReadable, Question, Reading, Reads, Run, ScriptError, Share, Tally, Tree, World, plain, plain_run, say, start}
pub use Rattle.serve.specs.Headline.{IsRefused, IsSpelled}
pub use Rattle.serve.specs.Ran.{Ran}
pub use Rattle.serve.specs.Status.{IsDoneOrPoor}
pub use Rattle.serve.specs.declared.status.Status.{Status}
pub use Rattle.serve.specs.declared.status.Status.TheVariants.{Done, OutOfMemory, ReadFault, Script, TooLarge, Usage, WriteFault}
pub use Rattle.std.proofs.Common.{List, [], ap, arith, length, map, refl, subst, suc, sym, zero, ℕ, ◌∙◌}
pub use Rattle.std.proofs.Math.Dec.{eqb-suc-zero}
pub use Rattle.std.proofs.lemmas.List.{append_assoc, length-map}
pub use Rattle.std.proofs.lemmas.List.FromFn.{map-range_with_len_more}
pub use Rattle.std.specs.List.{range_with_len}
pub use Rattle.std.specs.Prelude.{Err, IfOk, Ok, Result, false}
