-- The words that the lemmas of this crate are written in: its own definitions, and words and lemmas of crates below.
pub use Rattle.plain_machine.specs.Escapes.{escaped, hexadecimal, mark, quoted}
unfoldable pub use Rattle.plain_machine.specs.Escapes.{escaped_byte}
pub use Rattle.py_node.specs.Tree.{TCall, TClass, TOp, Text, Tree, entries_of, entry, pair_of, texts_of, tree_of, trees_of}
pub use Rattle.py_node.specs.declared.expr.CallParts.{CallParts}
pub use Rattle.py_node.specs.declared.expr.ClassParts.{ClassParts}
pub use Rattle.py_node.specs.declared.expr.Expr.{Call, Class, Expr, Op, the_lemmas}
pub use Rattle.script_text.specs.Below.{All, Command, Data, Err, IfErr, Items, Result, Value, Word, array, as_str, call_line, class_member, codes, depth, digit_char, find, flat_map, item, items_depth, items_view, joined, leb, list_any, members_view, no_items, option_and_then, read, replies_text, reply_of, slot_word, started_of, vec_len, view}
pub use Rattle.script_text.specs.FormParts.{formed, many_tree, parts_depth, single_tree}
pub use Rattle.script_text.specs.FormWords.{form_named}
unfoldable pub use Rattle.script_text.specs.FormWords.{form_words}
pub use Rattle.script_text.specs.Forms.{all_differ, call, class, entry_of, expr_of, list_of, named, named_entries, of_four, of_three, operation, pair_in}
unfoldable pub use Rattle.script_text.specs.Forms.{array_of, entries_in, exprs_of, pairs_in}
pub use Rattle.script_text.specs.JsonText.Fault.{fault_of}
pub use Rattle.script_text.specs.JsonText.Json.{any_bad, any_bad_member}
unfoldable pub use Rattle.script_text.specs.JsonText.Json.{value_of}
pub use Rattle.script_text.specs.JsonText.Texts.{of_two, texts_in}
pub use Rattle.script_text.specs.Script.{command_trees}
pub use Rattle.script_text.specs.Sessions.{any_empty, are_few, lacks_command, session_trees}
unfoldable pub use Rattle.script_text.specs.Sessions.{count_in, is_empty_array, lists_in, sessions_in}
pub use Rattle.script_text.specs.Words.{allows}
pub use Rattle.script_text.specs.declared.form_parts.Many.{Many}
pub use Rattle.script_text.specs.declared.form_parts.Single.{Single}
pub use Rattle.script_text.specs.declared.form_words.FormWord.{FormWord}
pub use Rattle.script_text.specs.declared.json_text.error.ScriptError.{ScriptError}
pub use Rattle.script_text.specs.declared.json_text.error.ScriptError.TheVariants.{NoCommand, Shape}
pub use Rattle.script_text.specs.declared.json_text.error.ScriptFault.TheVariants.{Script}
pub use Rattle.script_text.specs.declared.json_text.items.Unread.{Unread}
pub use Rattle.script_text.specs.declared.sessions.TheConstants.{TOO_MANY}
pub use Rattle.script_text.specs.declared.words.Arity.{Arity}
pub use Rattle.std.proofs.Common.{Bool, Bor, Box, Equal, Global, Greater, Less, List, None, Ok, Option, Ordering, Some, String, Vec, [], add-one, ap, append-nil, append_assoc, ap₂, arith, cond, drop, eqb, false, get_or, inl, inr, is_eq, length, map, nat_cmp, nat_lt, ne_eqb, not, ok_or, option_map, refl, rules, string_bytes, subst, suc, sym, take, true, zero, ℕ, ◌∙◌}
pub use Rattle.std.proofs.Math.Seq.{drop-cons}
pub use Rattle.std.proofs.lemmas.Bool.{and_parts, cases_lt, le-leb, lt-leb}
pub use Rattle.std.proofs.lemmas.Bool.Decides.{nat_tests}
pub use Rattle.std.proofs.lemmas.Grind.{common_steps}
pub use Rattle.std.proofs.lemmas.List.{length-map, map-append, map_more}
pub use Rattle.std.proofs.lemmas.List.Concat.{flat_map-append}
pub use Rattle.std.proofs.lemmas.Map.Text.{is_eq-slice_cmp}
pub use Rattle.std.proofs.lemmas.Slice.Eq.{bytes_eq-Decides}
pub use Rattle.std.proofs.lemmas.Str.{IsUtf8-append, IsUtf8-encode, IsUtf8-from_is_utf8, IsUtf8-nil, encode_ascii, inside_one, is_utf8-from_IsUtf8}
pub use Rattle.std.specs.BTreeSet.{insert_key}
pub use Rattle.std.specs.Cmp.Lexicographic.{slice_cmp}
pub use Rattle.std.specs.Ordering.{match_ordering}
pub use Rattle.std.specs.Str.{IsUtf8, bytes_eq, is_utf8}
