-- The words that the lemmas of this crate are written in: its own definitions, and words and lemmas of crates below.
pub use Rattle.class_model.specs.Class.{class_at, own_of}
pub use Rattle.class_world.proofs.Claims.{each-get, get-end, more-nodes, no-nodes}
pub use Rattle.class_world.proofs.SoundWorld.{keys-stored}
pub use Rattle.class_world.proofs.Stored.{map-push, ok-map}
pub use Rattle.class_world.specs.Held.{Held}
pub use Rattle.class_world.specs.Rows.{EndsAs}
pub use Rattle.class_world.specs.Sound.{AllHold, AreNodes, Grows, IsName, IsNode, KeysDiffer, of_binding, of_each, of_node_ref}
unfoldable pub use Rattle.class_world.specs.Sound.{Holds}
pub use Rattle.class_world.specs.declared.world.World.{World}
pub use Rattle.plain_machine.specs.Known.{the_dict, the_str, the_tuple}
pub use Rattle.plain_machine.specs.Plain.{ADict, ANumber, AText, ATuple, Datum, Ends, Node, PlainWorld, Said, no_members}
pub use Rattle.plain_machine.specs.Sound.{TextKey, key_at, key_of}
pub use Rattle.plain_machine.specs.World.{datum_at, has_dict, is_text, next_node, push_node, ref, with_node}
pub use Rattle.py_node.specs.Attributes.{AreNamesDistinct, is_same_name}
pub use Rattle.py_node.specs.declared.payload.Payload.{Payload}
pub use Rattle.py_node.specs.declared.refs.PyStrInterned.{PyStrInterned}
pub use Rattle.py_node.specs.declared.refs.PyTypeRef.{PyTypeRef}
pub use Rattle.py_node.specs.declared.task.Answer.{Answer}
pub use Rattle.py_node.specs.declared.task.Answer.TheVariants.{Value}
pub use Rattle.py_node.specs.declared.task.Step.TheVariants.{End}
pub use Rattle.row_kit.specs.Below.{Entries, Includes, PyObjectRef, Raised, Reading, Reads, Text, bindings, datum, entries_in, fits, items_in, last_part, numbers, plain, value}
pub use Rattle.row_kit.specs.ClassAttributes.{keyed}
pub use Rattle.row_kit.specs.ClassNames.{given, is_getset, unless_getset}
pub use Rattle.row_kit.specs.GiveContainers.{list_made, pairs_made}
pub use Rattle.row_kit.specs.OfSignatures.Signature.{HasNoSignature, IsSignature, StandsAt, ending, opening, signature_after, signature_of, up_to_ending}
pub use Rattle.row_kit.specs.Questions.{has_null}
pub use Rattle.row_kit.specs.Say.{int_made}
pub use Rattle.std.proofs.Common.{Bool, Err, List, None, Ok, Option, Some, T, [], ap, arith, cond, drop, eqb, false, get_or, inl, inr, length, length-append, map, nat_lt, refl, subst, suc, sym, take, true, true≢false, zero, ℕ, ◌∙◌}
pub use Rattle.std.proofs.Math.Facts.{sfits_lit}
pub use Rattle.std.proofs.Math.Seq.{drop-append_seam, drop-cons}
pub use Rattle.std.proofs.lemmas.Bool.{eq-eqb, eqb-true, lt-ltb}
pub use Rattle.std.proofs.lemmas.Bool.Decides.{Decides-eqb, eqb_tells}
pub use Rattle.std.proofs.lemmas.Int.{ints}
pub use Rattle.std.proofs.lemmas.List.{append_assoc, drop_all}
pub use Rattle.std.proofs.lemmas.List.Elements.{All-append}
pub use Rattle.std.proofs.lemmas.Slice.Eq.{starts_is}
pub use Rattle.std.specs.Int.{w128}
pub use Rattle.std.specs.Int.RustNames.{FitsSigned}
pub use Rattle.std.specs.List.{AllByRecursion, starts_with}
unfoldable pub use Rattle.std.specs.List.{IsDistinct}
pub use Rattle.std.specs.Map.{keys_of}
pub use Rattle.std.specs.Prelude.{IfNone, IfOk, IfSome, Result, is_some, negsuc, option_and_then, option_map, pos, slice_get, slice_index_or, ℤ}
