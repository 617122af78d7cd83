-- The words of crates below that the definitions and contracts of this crate are written in.
pub use Rattle.class_model.specs.Change.{stands_past}
pub use Rattle.class_model.specs.Class.{Class, Classes, bases_of, class_at, is_class, lin, past_first}
pub use Rattle.class_model.specs.Order.{Distinct, Includes, IsOrder, all_some, has, is_distinct, is_within, least_order, without}
pub use Rattle.class_model.specs.Sound.{AreSound}
pub use Rattle.class_table.specs.MroMerge.Lists.{numbers, rows}
pub use Rattle.class_table.specs.MroMerge.Merge.{AreLinesOf, IsApart, IsMerge, heads, members}
pub use Rattle.class_table.specs.MroMerge.Steps.{are_empty, first_free, merged, past, struck}
pub use Rattle.plain_machine.specs.Escapes.{escaped}
pub use Rattle.plain_machine.specs.Lines.{end_of_line, joined}
pub use Rattle.py_node.specs.Tree.{Text}
pub use Rattle.script_text.specs.JsonText.Json.{json_of}
pub use Rattle.script_text.specs.JsonText.Texts.{of_two, texts_in}
pub use Rattle.script_text.specs.declared.json_text.error.ScriptError.{ScriptError}
pub use Rattle.script_text.specs.declared.json_text.error.ScriptError.TheVariants.{NoCommand, Shape}
pub use Rattle.serde_json.specs.Data.{Data, Items, array, boolean, item, no_items, null, number, object, string}
pub use Rattle.serde_json.specs.Find.{as_str}
pub use Rattle.serde_json.specs.View.{items_view, view}
pub use Rattle.std.specs.Borrow.{Bor}
pub use Rattle.std.specs.Global.{Vec}
pub use Rattle.std.specs.List.{filter_map, flat_map, position}
pub use Rattle.std.specs.Prelude.{All, Bool, Err, IfErr, IfNone, IfOk, IfSome, IsOk, List, None, Ok, OnOk, Option, Result, Some, [], bytes_eq, codes, cond, drop, eqb, false, get_or, is_none, is_some, leb, length, ltb, map, ok_or, option_and_then, option_map, slice_get, string_bytes, suc, take, true, zero, ℕ}
