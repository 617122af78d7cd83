-- The words that the lemmas of this crate are written in: its own definitions, and words and lemmas of crates below.
pub use Rattle.class_model.proofs.Renamed.{at-renamed, entry-renamed, lin-renamed, numbers-renamed}
pub use Rattle.class_model.specs.BuiltIn.{natives_of}
pub use Rattle.class_model.specs.Class.{Classes, class_at, lin, renamed}
pub use Rattle.class_model.specs.Name.{short_name}
pub use Rattle.class_model.specs.Slot.{Keys, is_heap_at}
pub use Rattle.class_world.proofs.Growth.{grows-itself, grows-on}
pub use Rattle.class_world.proofs.Look.{known-read}
pub use Rattle.class_world.proofs.Stored.{all-push, map-next, map-push, names-push, no-names}
pub use Rattle.class_world.specs.Reading.{Reading, Reads, entry_list, form_tree, spelled}
unfoldable pub use Rattle.class_world.specs.Reading.{plain}
unfoldable pub use Rattle.class_world.specs.Sound.{Holds}
pub use Rattle.plain_machine.specs.ClassLines.{class_head, class_lines, slot_word, slots_head}
pub use Rattle.plain_machine.specs.ClassText.{class_text, heap_text, name_at, names_along, own_words, slot_words}
unfoldable pub use Rattle.plain_machine.specs.ClassText.{classes_text}
pub use Rattle.plain_machine.specs.Plain.{ADict, AList, ATuple, PlainWorld}
pub use Rattle.plain_machine.specs.World.{or_empty, text_keys}
pub use Rattle.py_node.specs.Known.{known_texts}
pub use Rattle.py_node.specs.Tree.{TAttr, TBind, TCall, TClass, TDelAttr, TDict, TFunc, TIf, TList, TOp, TSeq, TSetAttr, TTuple, Text, Tree, entries_of, entry, keyed_of, pair_of, part_of, texts_of, tree_of, trees_of}
pub use Rattle.py_node.specs.declared.entry.SlotEntry.{SlotEntry}
pub use Rattle.py_node.specs.declared.entry.SlotId.{SlotId}
pub use Rattle.py_node.specs.declared.expr.CallParts.{CallParts}
pub use Rattle.py_node.specs.declared.expr.ClassParts.{ClassParts}
pub use Rattle.py_node.specs.declared.expr.Expr.{Expr, the_lemmas}
pub use Rattle.py_node.specs.declared.expr.FuncParts.{FuncParts}
pub use Rattle.py_node.specs.declared.expr.SetAttrParts.{SetAttrParts}
pub use Rattle.py_node.specs.declared.expr.Word.{Word}
pub use Rattle.py_node.specs.declared.known.Known.{Known}
pub use Rattle.py_node.specs.declared.refs.PyObjectRef.{PyObjectRef}
pub use Rattle.py_node.specs.declared.refs.PyTypeRef.{PyTypeRef}
pub use Rattle.std.proofs.Common.{Err, IfOk, List, None, Ok, Result, Some, String, [], ap, arith, drop, eqb, get_or, length, map, refl, rules, string_bytes, subst, suc, sym, take, take_all, zero, ℕ, ◌∙◌}
pub use Rattle.std.proofs.lemmas.Grind.{common_steps, flat_map-append}
pub use Rattle.std.proofs.lemmas.List.{append-nil, length-map, take_more}
pub use Rattle.std.proofs.lemmas.Option.{get_or_from_slice_get, slice_get_within}
pub use Rattle.std.specs.Global.{Box, Vec}
pub use Rattle.std.specs.List.{flat_map, join_by}
pub use Rattle.std.specs.Prelude.{Bool, Option, codes, cond, option_map, slice_get, true}
pub use Rattle.world_text.specs.Below.{AreExpressions, AreNames, AreNodes, ExprRef, Form, Global, Held, IsExpression, IsName, IsNode, PyStrInterned, all_slots, containers, datum_text, dict_text, dots, end_of_line, entry_text, escaped, item_texts, joined, list_text, numbers, numbers_of, plain_text, rest_text, table_keys, text_within, tuple_text}
pub use Rattle.world_text.specs.Inside.{inside, or_dots}
pub use Rattle.world_text.specs.Store.{Adds, HasEntries, HasForm, HasName, HasNames, HasPairs, HasTree, HasTrees}
