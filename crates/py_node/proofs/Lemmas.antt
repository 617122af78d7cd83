-- The words that the answers of this crate are written in: its lemmas and definitions, and those of crates below.
pub use Rattle.py_node.proofs.Below.{AreDistinct, AreNamesDistinct, CallParts, ClassParts, Expr, Global, PyObjectRef, PyStrInterned, Some, Stands, is_same_name, part_of, position, position_from, tree_of, with_value, without_key}
pub use Rattle.py_node.proofs.Copies.{same_call, same_class}
pub use Rattle.py_node.proofs.Dicts.{key-added, put-is}
pub use Rattle.py_node.proofs.FewNames.{cut-absent, cut-found, distinct-with, distinct-without, insert-next, is_of, set-absent, set-found, value-absent, value-found}
pub use Rattle.py_node.proofs.Entries.{insert_entry-with_value, removed-without, with_value-next}
pub use Rattle.py_node.proofs.Keys.{alike, distinct-pushed, distinct-removed, fails, inserted, none-left, passes, set-next, turned}
pub use Rattle.py_node.proofs.SlotTables.{names_of_number, names_of_other}
pub use Rattle.py_node.proofs.Texts.{AreDistinct-push, found_is, none_stands, texts-insert}
pub use Rattle.py_node.specs.Dicts.{PlainDict, dict_put, is_same_key}
unfoldable pub use Rattle.py_node.specs.Faults.{cause_rows, kind_words}
pub use Rattle.py_node.specs.contracts.dict.PyDictKeyPartialEq.TheImpl.{eq-value}
pub use Rattle.py_node.specs.declared.dict.PyDictKey.{PyDictKey}
pub use Rattle.py_node.specs.declared.dict.PyDictKey.TheVariants.{Number, Text}
pub use Rattle.std.proofs.Common.{None, Some, String, [], List, ap, arith, length, map, refl, slice_get, slice_index_or, string_bytes, subst, suc, sym, take, ℕ, ◌∙◌}
pub use Rattle.std.proofs.lemmas.Iterator.Adapters.{position_from-zero}
pub use Rattle.std.proofs.lemmas.List.{get_or-map}
pub use Rattle.std.proofs.lemmas.Option.{slice_get-map}
pub use Rattle.std.specs.List.{IsDistinct}
pub use Rattle.std.specs.Option.{option_map}
