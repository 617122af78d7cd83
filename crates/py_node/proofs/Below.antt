-- The words that the lemmas of this crate are written in: its own definitions, and words and lemmas of crates below.
pub use Rattle.indexmap.specs.IndexMap.{insert_entry, shift_remove_entry}
pub use Rattle.indexmap.specs.IndexSet.{insert_key}
pub use Rattle.py_node.specs.Attributes.{AreNamesDistinct, is_same_name, value_of, with_value, without_key}
pub use Rattle.py_node.specs.Below.{Box, Global, Some, drop, keys_of, option_map, position, remove, slice_get, slice_index_or, slice_set}
pub use Rattle.py_node.specs.BuiltIns.{built_in_count}
unfoldable pub use Rattle.py_node.specs.BuiltIns.{all_built_ins}
pub use Rattle.py_node.specs.Dicts.{is_same_key, put_at}
pub use Rattle.py_node.specs.Faults.{cause_place, kind_place}
unfoldable pub use Rattle.py_node.specs.Known.{known_texts, number_of}
unfoldable pub use Rattle.py_node.specs.Operators.{operator_row, operators}
pub use Rattle.py_node.specs.Replies.{started_of}
pub use Rattle.py_node.specs.Slots.{slot_count}
unfoldable pub use Rattle.py_node.specs.Slots.{all_slots, names_of, number_names, other_names, place_of, slot_names}
pub use Rattle.py_node.specs.Texts.{AreDistinct, Stands}
pub use Rattle.py_node.specs.Tree.{Entries, TCall, TClass, Text, Tree, entries_of, entry, no_entries, pair_of, part_of, texts_of, tree_of, trees_of}
pub use Rattle.py_node.specs.contracts.dict.PyDictKeyPartialEq.TheImpl.{eq-value}
pub use Rattle.py_node.specs.contracts.task.PyNumberBinaryOp.{the_type}
pub use Rattle.py_node.specs.declared.built_in.BuiltIn.{BuiltIn}
pub use Rattle.py_node.specs.declared.built_in.BuiltIn.TheVariants.{Object}
pub use Rattle.py_node.specs.declared.dict.PyDictKey.{PyDictKey}
pub use Rattle.py_node.specs.declared.entry.SlotId.{SlotId}
pub use Rattle.py_node.specs.declared.expr.CallParts.{CallParts}
pub use Rattle.py_node.specs.declared.expr.ClassParts.{ClassParts}
pub use Rattle.py_node.specs.declared.expr.Expr.{Expr, the_lemmas}
pub use Rattle.py_node.specs.declared.expr.Expr.TheViews.{Call, Class}
pub use Rattle.py_node.specs.declared.known.Known.{Known}
pub use Rattle.py_node.specs.declared.known.TheConstants.{KNOWN}
pub use Rattle.py_node.specs.declared.raised.Cause.{Cause}
pub use Rattle.py_node.specs.declared.raised.Cause.TheVariants.{DuplicateBase}
pub use Rattle.py_node.specs.declared.raised.Kind.{Kind}
pub use Rattle.py_node.specs.declared.raised.Kind.TheVariants.{TypeError}
pub use Rattle.py_node.specs.declared.refs.PyObjectRef.{PyObjectRef}
pub use Rattle.py_node.specs.declared.refs.PyStrInterned.{PyStrInterned}
pub use Rattle.py_node.specs.declared.slots.TheConstants.{FILLINGS, NUMBER_SPECIAL, OTHER_SPECIAL}
pub use Rattle.py_node.specs.declared.task.PyNumberBinaryOp.{PyNumberBinaryOp}
pub use Rattle.py_node.specs.declared.task.PyNumberBinaryOp.TheVariants.{Add}
pub use Rattle.std.proofs.Common.{Bool, List, None, String, [], ap, arith, cond, eqb, false, get_or, inl, inr, length, map, nat_lt, refl, rules, string_bytes, subst, suc, sym, take, true, true≢false, zero, ℕ, ◌∙◌}
pub use Rattle.std.proofs.Math.Seq.{drop-cons, take-suc}
pub use Rattle.std.proofs.lemmas.Bool.{eqb-true, le-ltb, lt-ltb}
pub use Rattle.std.proofs.lemmas.Cmp.{int_eq_equiv}
pub use Rattle.std.proofs.lemmas.Iterator.Adapters.{position_from-zero}
pub use Rattle.std.proofs.lemmas.List.{drop_all}
pub use Rattle.std.proofs.lemmas.List.Quantifiers.{position-Some}
pub use Rattle.std.proofs.lemmas.Slice.Eq.{bytes_eq-Decides}
pub use Rattle.std.specs.List.{AllByRecursion, find, list_any, position_from}
unfoldable pub use Rattle.std.specs.List.{IsDistinct}
pub use Rattle.std.specs.Str.{bytes_eq}
