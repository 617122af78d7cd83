-- The words that the lemmas of this crate are written in: its own definitions, and words and lemmas of crates below.
pub use Rattle.outside.specs.Below.{ForSome, is_ascii_digit, list_all}
pub use Rattle.outside.specs.Words.{Text, is_in_range, is_numeral, job_in, number_written}
pub use Rattle.std.proofs.Common.{List, Some, [], ap, append_assoc, arith, drop, false, length, length-append, refl, rules, sym, take, true, vec_len, ℕ, ◌∙◌}
pub use Rattle.std.proofs.Math.Seq.{drop-append-add, take-add}
pub use Rattle.std.proofs.lemmas.Bool.{false_from_ne_true}
pub use Rattle.std.proofs.lemmas.Grind.{common_steps}
pub use Rattle.std.proofs.lemmas.List.{take-append-drop, take_all, take_rest}
pub use Rattle.std.proofs.lemmas.Str.Parse.{IsNumeralModel, numerals_by_value, parse_gives}
pub use Rattle.std.specs.Prelude.{Err, None, Ok, Option, Result}
pub use Rattle.std.specs.Str.Parse.{ParsesUnsigned, digits_value}
