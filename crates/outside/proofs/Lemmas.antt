-- The words that the answers of this crate are written in: its lemmas and definitions, and those of crates below.
pub use Rattle.outside.proofs.NoJob.{no_job}
pub use Rattle.outside.proofs.Numerals.{too_large}
pub use Rattle.outside.proofs.Pieces.{taken_more}
pub use Rattle.outside.proofs.SoFar.{all_read, none_left, one_more, within_limit}
pub use Rattle.outside.specs.Words.{is_numeral}
pub use Rattle.std.proofs.Common.{Some, ap, arith, drop, length, length-drop, length-take, map, rules, string_bytes, sym, take, ◌∙◌}
pub use Rattle.std.proofs.lemmas.List.{length-map, take_rest}
