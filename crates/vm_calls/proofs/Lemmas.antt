-- The words that the answers of this crate are written in: its lemmas and definitions, and those of crates below.
pub use Rattle.class_world.specs.declared.world.World.{World}
pub use Rattle.py_node.specs.declared.protocol.ProtocolTask.TheVariants.{DelItem, GetItem, SetItem}
pub use Rattle.std.proofs.Common.{Option, Some, ap, arith, refl, rules, subst, sym, true, ℕ, ◌∙◌}
pub use Rattle.std.proofs.lemmas.Int.{to_z-of_z}
pub use Rattle.vm_calls.proofs.AnswerKinds.Rows.{answered}
pub use Rattle.vm_calls.proofs.AttributeLaws.Answering.{method-asks, native-asked, read-method, target-first}
pub use Rattle.vm_calls.proofs.AttributeLaws.Keeping.{bases-keep, class-keeps}
pub use Rattle.vm_calls.proofs.Composed.{by-number, items-made}
pub use Rattle.vm_calls.proofs.Kinded.{asked-kind}
pub use Rattle.vm_calls.proofs.Loading.{invoked-is-called, loaded-is-read}
pub use Rattle.vm_calls.proofs.OfProtocols.Read.{item_shown, mappings_read, numbers_read, sequences_read, subscript_shown}
pub use Rattle.vm_calls.proofs.SlotTables.Filled.{no_mapping, no_sequence, no_slots}
pub use Rattle.vm_calls.specs.Answers.{IsDone, IsObject}
pub use Rattle.vm_calls.specs.AttributeLaws.Methods.{IsUsual}
pub use Rattle.vm_calls.specs.Below.{AllHold, Answer, Asked, Class, DoDelItem, DoGetItem, DoSetItem, Done, MapSubscript, PyResult, Reading, SeqItem, Text, ToProtocol, length, most_items, nat_le, of_answer, of_done, of_node_ref, option_map, plain, slot_at}
pub use Rattle.vm_calls.specs.Told.{of_nothing}
