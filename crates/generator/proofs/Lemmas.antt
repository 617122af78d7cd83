-- The words that the answers of this crate are written in: its lemmas and definitions, and those of crates below.
pub use Rattle.generator.proofs.Below.{Counts, PlainReply, plain_run, reply_of}
pub use Rattle.generator.proofs.OneByOne.{run-length}
pub use Rattle.generator.proofs.Sorts.{counts-one-more, sorts-add-up}
unfoldable pub use Rattle.generator.specs.Commands.{generated}
unfoldable pub use Rattle.generator.specs.Draws.{next}
pub use Rattle.py_node.specs.declared.reply.Reply.{Reply}
pub use Rattle.std.proofs.Common.{List, [], ap, arith, length, map, slice_index_or, subst, sym, take, ℕ, ◌∙◌}
pub use Rattle.std.proofs.Math.Nat.{mod-add-mod}
pub use Rattle.std.proofs.lemmas.List.{append-nil, append_assoc, map_more, take_all}
pub use Rattle.std.proofs.lemmas.List.FromFn.{length-map-range_with_len}
