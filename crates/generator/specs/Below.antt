-- The words of crates below that the definitions and contracts of this crate are written in.
pub use Rattle.plain_machine.specs.Answer.{plain_run}
pub use Rattle.plain_machine.specs.Lines.{end_of_line}
pub use Rattle.plain_machine.specs.Plain.{PlainTask, PlainWorld, Saying}
pub use Rattle.py_node.specs.Replies.{GivesBudget, GivesRaise, GivesValue, PlainReply, PlainReplyAnswer, reply_of}
pub use Rattle.py_node.specs.Tree.{LInt, TBind, TCall, TClass, TConst, TFunc, TName, TOp, TSetAttr, TTuple, Text, Tree, Trees, no_entries, no_trees, tree_of, trees_of}
pub use Rattle.py_node.specs.declared.expr.Word.TheVariants.{Binary}
pub use Rattle.py_node.specs.declared.task.PyNumberBinaryOp.TheVariants.{Add}
pub use Rattle.std.specs.Fmt.{decimal}
pub use Rattle.std.specs.List.{count_by, range_with_len, sum_by}
pub use Rattle.std.specs.Prelude.{Bool, IfOk, List, OnOk, [], codes, cond, false, length, map, pos, string_bytes, suc, true, zero, ℕ}
