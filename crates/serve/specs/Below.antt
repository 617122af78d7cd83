-- The words of crates below that the definitions and contracts of this crate are written in.
pub use Rattle.class_world.specs.Reading.{IsReadable, Reading, Reads, plain}
pub use Rattle.class_world.specs.declared.world.World.{World}
pub use Rattle.generator.specs.Commands.{generated}
pub use Rattle.generator.specs.Summary.{Counts, summary}
pub use Rattle.generator.specs.declared.tally.Tally.{Tally}
pub use Rattle.order_check.specs.Hierarchy.{AreKeyed}
pub use Rattle.order_check.specs.HierarchyText.Spelled.{PlainClass, hierarchy_of}
pub use Rattle.order_check.specs.Report.{AreFound, IsReport}
pub use Rattle.order_check.specs.ReportText.PlainReport.{plain_report}
pub use Rattle.outside.specs.Count.{Rose}
pub use Rattle.outside.specs.Words.{job_in}
pub use Rattle.outside.specs.declared.words.Generation.{Generation}
pub use Rattle.outside.specs.declared.words.Question.{Question}
pub use Rattle.outside.specs.declared.words.Question.TheVariants.{Check, Share}
pub use Rattle.plain_machine.specs.Answer.{Run, plain_run}
pub use Rattle.plain_machine.specs.ClassText.{classes_text}
pub use Rattle.plain_machine.specs.Lines.{replies_text}
pub use Rattle.plain_machine.specs.Start.{start}
pub use Rattle.py_node.specs.Tree.{Text, Tree, tree_of}
pub use Rattle.script_text.specs.JsonText.Json.{error_word}
pub use Rattle.script_text.specs.Script.{script_of}
pub use Rattle.script_text.specs.Sessions.{session_trees, sessions_of}
pub use Rattle.script_text.specs.declared.json_text.error.ScriptError.{ScriptError}
pub use Rattle.shared_vm.specs.Journal.{Legal, PlainEntry}
pub use Rattle.shared_vm.specs.SharedRun.JournalText.{journal_text}
pub use Rattle.shared_vm.specs.SharedRun.Mix.{Mix}
pub use Rattle.std.specs.List.{All}
pub use Rattle.std.specs.Option.{ForSome}
pub use Rattle.std.specs.Prelude.{Err, IfOk, List, None, Ok, OnOk, Option, Some, [], codes, drop, length, map, option_map, string_bytes, take, vec_len, ℕ}
pub use Rattle.vm_eval.specs.Runs.{trees_in}
pub use Rattle.vm_eval.specs.Say.{say}
