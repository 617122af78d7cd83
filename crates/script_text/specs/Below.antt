-- The words of crates below that the definitions and contracts of this crate are written in.
pub use Rattle.plain_machine.specs.ClassLines.{class_head, class_lines, class_member, slot_word, slots_head}
pub use Rattle.plain_machine.specs.Escapes.{escaped, escaped_byte, quoted}
pub use Rattle.plain_machine.specs.Lines.{answer_line, call_line, end_of_line, joined, replies_text, reply_lines}
pub use Rattle.py_node.specs.Replies.{reply_answer_of, reply_of, started_of}
pub use Rattle.py_node.specs.Tree.{Entries, LFalse, LInt, LNone, LText, LTrue, TAttr, TBind, TCall, TClass, TConst, TDelAttr, TDict, TFunc, TIf, TList, TName, TOp, TRaise, TSeq, TSetAttr, TTuple, Text, Tree, entry, keyed_of, no_entries, pair_of, texts_of, tree_of, trees_of}
pub use Rattle.py_node.specs.declared.expr.Command.{Command}
pub use Rattle.py_node.specs.declared.expr.Expr.{Expr}
pub use Rattle.py_node.specs.declared.expr.Word.{Word}
pub use Rattle.py_node.specs.declared.raised.Kind.{Kind}
pub use Rattle.py_node.specs.declared.raised.TheConstants.{KINDS}
pub use Rattle.serde_json.specs.Data.{Data, Items, Members, array, boolean, depth, item, items_depth, member, no_items, no_members, null, number, object, string}
pub use Rattle.serde_json.specs.Find.{as_i64, as_str}
pub use Rattle.serde_json.specs.Read.{read}
pub use Rattle.serde_json.specs.View.{items_view, members_view, view}
pub use Rattle.serde_json.specs.declared.value.Value.{Value}
pub use Rattle.std.specs.Char.{digit_char}
pub use Rattle.std.specs.List.{All, find, flat_map, list_any}
pub use Rattle.std.specs.Prelude.{Bool, Err, IfErr, IfOk, List, None, Ok, OnOk, Option, Result, Some, String, Vec, [], bytes_eq, codes, false, is_some, leb, length, map, max, not, ok_or, option_and_then, option_map, string_bytes, suc, true, vec_len, ℕ}
pub use Rattle.std.specs.Str.{IsUtf8, is_utf8}
pub use Rattle.std.specs.declared.alloc.Global.{Global}
