-- The words of crates below that the definitions and contracts of this crate are written in.
pub use Rattle.class_table.specs.ClassLog.Change.{Change, change_of}
pub use Rattle.class_table.specs.ClassLog.Following.{BeginsWith, CanFollow, Keeps}
pub use Rattle.class_table.specs.ClassLog.Logged.{AreSameButForNames}
pub use Rattle.class_table.specs.ClassLog.Shown.{shown}
pub use Rattle.class_view.specs.Posted.{Posted, posted}
pub use Rattle.class_view.specs.declared.writer.Told.{Told}
pub use Rattle.class_world.specs.Held.{Held}
pub use Rattle.class_world.specs.Reading.{IsReadable, Reading, Reads, plain}
pub use Rattle.left_right.specs.Sides.{view}
pub use Rattle.plain_machine.specs.Answer.{Run, plain_run}
pub use Rattle.plain_machine.specs.ClassText.{classes_text}
pub use Rattle.plain_machine.specs.Lines.{end_of_line, reply_lines}
pub use Rattle.plain_machine.specs.Plain.{PlainWorld}
pub use Rattle.plain_machine.specs.Start.{start}
pub use Rattle.py_node.specs.Replies.{PlainReply, reply_of}
pub use Rattle.py_node.specs.Tree.{Text, Tree, tree_of}
pub use Rattle.py_node.specs.declared.expr.Command.{Command}
pub use Rattle.py_node.specs.declared.refs.PyStrInterned.{PyStrInterned}
pub use Rattle.seat_lock.specs.History.{IsWhole, turns_by}
pub use Rattle.seat_lock.specs.Known.{IsFree, IsSameSeat, Known, TableId, fresh_seat, with_turn}
pub use Rattle.seat_lock.specs.declared.history.Turn.{Turn}
pub use Rattle.seat_lock.specs.declared.seat.TheConstants.{MOST_TURNS}
pub use Rattle.std.specs.Fmt.{decimal}
pub use Rattle.std.specs.List.{All, count_by, filter, filter_map, flat_map, fold, list_any}
pub use Rattle.std.specs.Prelude.{Bool, Err, IfOk, IfSome, IsOk, List, None, Ok, OnErr, OnOk, Option, Result, Some, Vec, [], codes, false, length, map, option_to_list, slice_get, slice_index_or, string_bytes, suc, true, vec_len, ℕ}
pub use Rattle.std.specs.declared.alloc.Global.{Global}
pub use Rattle.vm_eval.specs.Runs.{trees_in}
pub use Rattle.vm_eval.specs.Say.{say}
pub use Rattle.vm_eval.specs.State.{State}
