-- The words that the answers of this crate are written in: its lemmas and definitions, and those of crates below.
pub use Rattle.script_text.proofs.Below.{All, Command, IsUtf8, Script, TOO_MANY, array, as_str, bytes_eq, fault_of, find, form_named, formed, is_empty_array, items_view, lacks_command, nat_tests, tree_of, view}
pub use Rattle.script_text.proofs.Distinct.{HasFrom, one-more, repeated, still-differ}
pub use Rattle.script_text.proofs.Found.{find-map}
pub use Rattle.script_text.proofs.JsonText.Values.{shape-from_fault, value-of_none, value-of_text}
pub use Rattle.script_text.proofs.Lists.{call-tree, class-tree, commands-turn, depth-here, entries-turn, exprs-turn, pairs-turn}
pub use Rattle.script_text.proofs.Nones.{four-fourth, four-second, four-third, if-err, three-second, three-third}
pub use Rattle.script_text.proofs.ReplyText.EscapesUtf8.{utf8_escaped, utf8_quoted}
pub use Rattle.script_text.proofs.ReplyText.Members.{member_more, written_more}
pub use Rattle.script_text.proofs.Rows.{empty-rows, fit-rows, lists-turn, other-rows}
pub use Rattle.script_text.proofs.Told.{array-empty, array-form, array-other}
pub use Rattle.script_text.specs.Below.{Err, Global, List, Vec, length, option_and_then, vec_len, ℕ}
pub use Rattle.script_text.specs.Forms.{array_of, body_of, call, class, expr_of, exprs_of, list_of, named}
unfoldable pub use Rattle.script_text.specs.Forms.{call_of, class_of, keywords_of, kind_named}
unfoldable pub use Rattle.script_text.specs.Script.{commands_in}
pub use Rattle.script_text.specs.declared.json_text.error.ScriptError.TheVariants.{NotJson}
pub use Rattle.script_text.specs.declared.json_text.items.Unread.TheVariants.{Shape}
pub use Rattle.serde_json.specs.Errors.{IsMemory}
pub use Rattle.serde_json.specs.declared.value.Value.{the_lemmas}
pub use Rattle.std.proofs.Common.{None, Ok, [], ap, arith, false, inl, inr, length-append, map, ok_or, option_map, rules, string_bytes, subst, sym, ◌∙◌}
pub use Rattle.std.proofs.lemmas.List.Elements.{All-push}
