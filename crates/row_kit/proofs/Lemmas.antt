-- The words that the answers of this crate are written in: its lemmas and definitions, and those of crates below.
pub use Rattle.class_world.proofs.Claims.{all-grow, more-nodes, no-nodes}
pub use Rattle.class_world.proofs.DictChanges.{none-hold}
pub use Rattle.class_world.proofs.Growth.{grows-itself, grows-on}
pub use Rattle.class_world.proofs.KeyEntries.{keys-can, pair-holds}
pub use Rattle.class_world.specs.Keyed.{of_entries, of_pairs}
unfoldable pub use Rattle.py_node.specs.BuiltIns.{place_of}
pub use Rattle.row_kit.proofs.Below.{AText, FitsSigned, HasNoSignature, Held, PyObjectRef, PyTypeRef, Reading, Reads, bindings, datum, ending, entries_in, items_in, keyed, list_made, ok-map, pairs_made, plain, ref, w128}
unfoldable pub use Rattle.row_kit.proofs.Below.{Holds}
pub use Rattle.row_kit.proofs.ContainersEnds.{then-if}
pub use Rattle.row_kit.proofs.ContainersLoops.{pair-more, pairs-all}
pub use Rattle.row_kit.proofs.ContainersPayloads.{no-entries, no-items}
pub use Rattle.row_kit.proofs.Made.{int-ends, made-ends}
pub use Rattle.row_kit.proofs.ObjectsKeyed.{drop-got, entry-holds, keyed-next, keys-differ, no-keys-yet, pairs-grow, pairs-push, spelled-next}
pub use Rattle.row_kit.proofs.ObjectsListed.{class-among, nodes-end, nodes-next}
pub use Rattle.row_kit.proofs.ObjectsNamed.{given-some}
pub use Rattle.row_kit.proofs.OfSignatures.Signed.{signature-told}
pub use Rattle.row_kit.specs.Below.{AllHold, AreNodes, IsName, IsNode, Ok, drop, known_text, of_payload, string_bytes, take, with_one}
pub use Rattle.row_kit.specs.Called.{call_native}
pub use Rattle.row_kit.specs.ClassNames.{builtins, module_of, text_or}
pub use Rattle.row_kit.specs.Say.{text_made}
pub use Rattle.row_kit.specs.TakeContainers.{entries_at}
pub use Rattle.std.proofs.Common.{IfNone, List, None, Option, Some, [], add-one, ap, arith, get_or, length, length-append, map, option_map, refl, rules, subst, suc, sym, zero, ℕ, ◌∙◌}
pub use Rattle.std.proofs.lemmas.Int.{to_z-of_z}
pub use Rattle.std.proofs.lemmas.List.{append_cancel_left}
pub use Rattle.std.proofs.lemmas.Result.{err_from_is_err_and}
