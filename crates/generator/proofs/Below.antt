-- The words that the lemmas of this crate are written in: its own definitions, and words and lemmas of crates below.
pub use Rattle.generator.specs.Below.{GivesBudget, GivesRaise, GivesValue, PlainReply, PlainReplyAnswer, Tree, cond, reply_of}
pub use Rattle.generator.specs.Summary.{Added, Counts, budget, is_budget, is_raise, is_value, raised, values}
pub use Rattle.generator.specs.declared.tally.Tally.{Tally}
pub use Rattle.plain_machine.specs.Answer.{Out, Outcome, Run, answer, answering, plain_run, replied}
pub use Rattle.plain_machine.specs.Plain.{DoEval, PlainTask, PlainWorld, Saying, ToEval}
pub use Rattle.plain_machine.specs.World.{without_calls}
pub use Rattle.std.proofs.Common.{List, [], ap, arith, length, map, refl, sym, take, ℕ, ◌∙◌}
pub use Rattle.std.proofs.lemmas.List.{length-append}
pub use Rattle.std.proofs.lemmas.List.Sums.{sum_by-cons, sum_by_push}
