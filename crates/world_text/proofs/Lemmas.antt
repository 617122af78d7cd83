-- The words that the answers of this crate are written in: its lemmas and definitions, and those of crates below.
pub use Rattle.class_model.proofs.Rule.{lin-classes}
pub use Rattle.class_table.proofs.Along.{held-at}
pub use Rattle.class_world.proofs.Stored.{ok-map}
pub use Rattle.class_world.specs.Reading.{Reading, datum, plain}
unfoldable pub use Rattle.py_node.specs.BuiltIns.{place_of}
pub use Rattle.py_node.specs.declared.payload.Payload.{Payload}
pub use Rattle.script_text.proofs.ReplyText.Members.{member_more, written_more}
pub use Rattle.std.proofs.lemmas.Bool.Decides.{nat_tests}
pub use Rattle.world_text.proofs.Adding.{adds-itself, adds-on, entries-next, entries-stay, name-stays, named, names-next, names-stay, no-entry, no-name, no-pair, no-tree, pairs-next, pairs-stay, stored, tree-as, tree-stays, trees-next, trees-stay}
pub use Rattle.world_text.proofs.Below.{CallParts, ClassParts, Expr, ExprRef, FuncParts, Global, List, PyObjectRef, PyStrInterned, PyTypeRef, String, [], ap, arith, containers, datum_text, dict_text, entry_text, flat_map, heap_text, item_texts, list_text, name_at, numbers, numbers_of, or_empty, string_bytes, suc, sym, table_keys, text_within, tuple_text, ℕ, ◌∙◌}
pub use Rattle.world_text.proofs.ClassText.{all-taken, class-written, names-end, text-next, text-seen}
pub use Rattle.world_text.proofs.Forms.{attr-form, bind-form, call-form, class-form, del_attr-form, dict-form, func-form, if-form, list-form, op-form, seq-form, set_attr-form, tuple-form}
pub use Rattle.world_text.proofs.Shown.{dict-text, inside-less, item-there, items-shown, join-read, list-text, part-there, rest-shown, tuple-text}
pub use Rattle.world_text.specs.Inside.{inside, or_dots, texts_of}
