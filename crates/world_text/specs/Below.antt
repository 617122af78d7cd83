-- The words of crates below that the definitions and contracts of this crate are written in.
pub use Rattle.class_model.specs.Class.{is_class}
pub use Rattle.class_model.specs.Numbers.{numbers_of}
pub use Rattle.class_model.specs.Order.{Includes}
pub use Rattle.class_table.specs.Keys.{numbers, table_keys}
pub use Rattle.class_world.specs.Held.{Held}
pub use Rattle.class_world.specs.Reading.{Reading, Reads, datum, form_tree, plain}
pub use Rattle.class_world.specs.Sound.{AllHold, AreExpressions, AreNames, AreNodes, Grows, Holds, IsClass, IsExpression, IsName, IsNode, of_form, of_payload}
pub use Rattle.plain_machine.specs.ClassLines.{class_head, slot_word, slots_head}
pub use Rattle.plain_machine.specs.ClassText.{class_text, classes_text, heap_text, name_at, own_words, slot_words}
pub use Rattle.plain_machine.specs.Escapes.{escaped}
pub use Rattle.plain_machine.specs.Lines.{end_of_line, joined}
pub use Rattle.plain_machine.specs.Show.{class_name, containers, datum_text, dict_text, dots, entry_text, fixed_text, item_texts, list_text, plain_text, rest_text, show, text_within, tuple_end, tuple_text}
pub use Rattle.py_node.specs.BuiltIns.{place_of}
pub use Rattle.py_node.specs.Slots.{all_slots}
pub use Rattle.py_node.specs.Tree.{TConst, Text, Tree, literal_of, pair_of, part_of, texts_of, tree_of}
pub use Rattle.py_node.specs.declared.payload.Form.{Form}
pub use Rattle.py_node.specs.declared.refs.ExprRef.{ExprRef}
pub use Rattle.py_node.specs.declared.refs.PyStrInterned.{PyStrInterned}
pub use Rattle.std.specs.Global.{Vec}
pub use Rattle.std.specs.List.{flat_map}
pub use Rattle.std.specs.Prelude.{IfOk, List, None, OnOk, Option, Some, String, codes, drop, map, option_map, string_bytes, suc, take, true, zero, ℕ}
pub use Rattle.std.specs.declared.alloc.Global.{Global}
