-- The words that the answers of this crate are written in: its lemmas and definitions, and those of crates below.
pub use Rattle.class_world.specs.Held.{Held}
pub use Rattle.outside.specs.declared.words.Job.TheVariants.{Answer}
pub use Rattle.script_text.specs.declared.json_text.error.ScriptFault.TheVariants.{Script}
pub use Rattle.serve.proofs.Answered.{done-or-poor, spelled-not_refused}
pub use Rattle.serve.proofs.Below.{Counts, PlainWorld, Question, Ran, Reads, Reply, Run, after, generated, plain, plain_run, reply_of, say, start}
pub use Rattle.serve.proofs.OneMore.{one-reply, ran-more, when-ok}
pub use Rattle.serve.proofs.Steps.{all-counted, change-draws, change-more, changes_made, class-draw, class-more, classes_made}
pub use Rattle.serve.specs.Below.{Text, Tree, classes_text, job_in, replies_text, tree_of, trees_in}
pub use Rattle.serve.specs.Headline.{IsRoomFor, IsSpelled, text_of}
pub use Rattle.std.proofs.Common.{Err, List, Some, ap, arith, length, map, string_bytes, subst, sym, ℕ, ◌∙◌}
pub use Rattle.std.proofs.lemmas.List.{append-nil}
