-- The words that the answers of this crate are written in: its lemmas and definitions, and those of crates below.
pub use Rattle.class_world.proofs.Claims.{all-append, more-nodes, no-nodes, node-in}
pub use Rattle.class_world.proofs.Growth.{grows-itself, grows-on}
pub use Rattle.class_world.specs.Rows.{EndsAs}
pub use Rattle.proto_object.proofs.Below.{AList, AllHold, Answered, AreNodes, Ask, Collecting, DoSpecial, Each, End, Equal, Exhausted, Gathering, Holds, Instancecheck, IsNode, Next, PlainWorld, PyObjectRef, Said, Subclasscheck, ToAttribute, Truth, Value, bindings, datum, entered, is_numeral, keyed, known_text, most_items, names_made, other_keys, own_keys, plain, the_list, turn_of, way_of, with_slice, without_sign}
pub use Rattle.proto_object.proofs.ByWay.{at-once, called, each, instance, instance-is, plainly, subclass, subclass-is}
pub use Rattle.proto_object.proofs.InTurn.{asked-holds, drop-got, drop-none, next-goes}
pub use Rattle.proto_object.proofs.Named.{AreOthers, dir-ends, dir-said, no-name, node-at, one-name, other-no-name, others-more, others-same, text-named}
pub use Rattle.proto_object.proofs.ProtoItems.Calling.{calls, calls-safe}
pub use Rattle.proto_object.proofs.ProtoItems.Gathering.{all-gathered, first-asked, next-asked, no-item, too-many}
pub use Rattle.proto_object.proofs.ProtoItems.Slicing.{part-deleted, part-read, part-set}
pub use Rattle.proto_object.proofs.ProtoIter.At.{answer-holds, answered, ends-same, item-is, none-is, steps-so}
pub use Rattle.proto_object.proofs.ProtoIter.Collect.{asks-more, ends-all, ends-long}
pub use Rattle.proto_object.proofs.ProtoIter.Search.{asks-item, asks-next, ends-last, ends-other, ends-turn, ends-untrue}
pub use Rattle.proto_object.proofs.ProtoNumber.Hints.{hint-expects}
pub use Rattle.proto_object.proofs.ProtoNumber.Spelling.{spelled-err}
pub use Rattle.proto_object.specs.Below.{keys_of, of_ended, of_task, sized_made}
pub use Rattle.proto_object.specs.Rows.{Resumes, turn_step, way_number}
unfoldable pub use Rattle.py_node.specs.BuiltIns.{place_of}
pub use Rattle.row_kit.proofs.ContainersPayloads.{nodes-append}
pub use Rattle.row_kit.proofs.Ended.{sorted_ends}
pub use Rattle.row_kit.proofs.ObjectsEnded.{ends-then}
pub use Rattle.row_kit.specs.GiveContainers.{list_made}
pub use Rattle.std.proofs.Common.{Err, None, Ok, Some, [], ap, arith, drop, false, inl, refl, rules, subst, sym, true, ◌∙◌}
pub use Rattle.std.proofs.Math.Facts.{to_z-of_z}
pub use Rattle.std.specs.Prelude.{IfOk, is_some, length, nat_le, slice_get, string_bytes, ℤ}
