-- The words that the answers of this crate are written in: its lemmas and definitions, and those of crates below.
pub use Rattle.class_table.proofs.Bests.{found}
pub use Rattle.class_table.proofs.ClassLog.Logged.{keeps-itself, keeps-more, keeps-taken, named-logged}
pub use Rattle.class_table.proofs.Dicts.{static-says}
pub use Rattle.class_table.proofs.Heaps.{only-best}
pub use Rattle.class_table.proofs.StartParts.{built-count, in-row, map-end, map-step}
pub use Rattle.class_table.specs.ClassLog.Change.{Change, DelOwn, SetBases, SetOwn}
pub use Rattle.class_world.proofs.Added.{added-grows, added-holding, added-last, added-number, added-read, added-sound, added-there}
pub use Rattle.class_world.proofs.Apart.{all-end, all-take}
pub use Rattle.class_world.proofs.Attributes.{inherited-hold, inherited-seen, own-hold}
pub use Rattle.class_world.proofs.Below.{AllHold, AreEmpty, AreNames, AreNamesDistinct, AreNodes, BuiltIn, CanBeKeys, Class, Entries, Grows, HasValues, Held, Holding, IsClass, IsEmptyDict, IsExpression, IsName, IsNode, IsOf, IsOffset, KeysDiffer, KeysRead, NamesKey, NumberKey, PlainDict, PyDictKey, PyObjectRef, PyStrInterned, PyTypeRef, Reading, Reads, Scope, Sound, Text, TextKey, all_built_ins, any_has_dict, at-renamed, best_of, bindings, built_ins, class_at, class_node, class_ref_at, dict_in, dict_pushed, dict_put, dict_removed, first_with, flags_at, has_dict, heap_class, held_dict, held_entries, held_params, held_text, holds_as, home_at, home_of, is_class, is_held_key, is_marked_heap, is_same_key, key_in, lin, none, numbers, of_binding, of_class_ref, of_dict_ref, of_each, of_form, of_keyed, of_node, of_option, of_pairs, of_payload, of_property, of_scope, of_setter, of_slots, option_or, params_in, place_at, place_of, put_at, refused_class, remove, scope_of, slice_get_within, slot_members, slot_names, slots_bring, some-of, spelled, splice, table_keys, the_none_type, the_str, value_at_place, value_of, with_bases, with_class_ref, with_dict_ref, with_entries, with_entry, with_parts}
unfoldable pub use Rattle.class_world.proofs.Below.{Holds, plain}
pub use Rattle.class_world.proofs.Bodies.{function-at, function-read, function-there, local-read, local-there}
pub use Rattle.class_world.proofs.Bound.{bind-grows, bind-read, bind-sound, bound-at, last-at, other-lasts, other-sound, value-holds, value-read, value-there, variable-read, with_value-holds}
pub use Rattle.class_world.proofs.Built.{built_in-holds, built_in-of, built_in_node-holds, dict-none, fixed-holds, place-at}
pub use Rattle.class_world.proofs.ChangedClass.{called, called-read, change-like, own-told, without, without-holds, without-read}
pub use Rattle.class_world.proofs.Changes.{form-sound, names-sound}
pub use Rattle.class_world.proofs.Claims.{all-first, all-grow, all-rest, each-get, each-push, each-take, got, got-map, more-nodes, no-nodes, node-in, opened, opened-one, seen}
pub use Rattle.class_world.proofs.ClassChanges.{bases-there, classes-grow, room, set-like, set-read, set-sound, unchanged}
pub use Rattle.class_world.proofs.Counts.{count-seen, offset-within}
pub use Rattle.class_world.proofs.Defined.{define-grows, define-read, define-sound}
pub use Rattle.class_world.proofs.DictChanges.{changed, dict-seen, dict-there, either-other, held-hold, no-dict, none-hold, other-grows, other-read, pushed-hold, put-hold, removed-hold}
pub use Rattle.class_world.proofs.DictEntries.{first-key, get-below, no-key}
pub use Rattle.class_world.proofs.DictReads.{add-read, entries-stay, first-named, first-value, kept-read, new-key-differs, new-key-read, no-value, none-named, put-read, taken-read, text-read}
pub use Rattle.class_world.proofs.Filled.{filled-end, filled-step, name-at, node-at}
pub use Rattle.class_world.proofs.Growth.{form-grows, grows-itself, grows-on, grows-seen, lasts-seen, names-grow}
pub use Rattle.class_world.proofs.HeapClass.{class-read, dict-read, heap-unmarked, members-named, members-seen}
pub use Rattle.class_world.proofs.KeyEntries.{all-pairs, key-held, named-place, no-key-in, nothing-named, one-can, one-more, pair-holds, push-differs, push-entry, put-entry, stored-absent, stored-place, text-unnamed, under-none, under-set, under-some, under-taken, under-there, unnamed-absent}
pub use Rattle.class_world.proofs.ListChanges.{end-there, item-set, item-taken, kind-there, place-there, pushed, spliced}
pub use Rattle.class_world.proofs.Look.{candidates-seen, entry-seen, form-added, form-reads, goes-first-seen, known-read, known-within, node-holds, node-read, slot-seen}
pub use Rattle.class_world.proofs.MadeClass.{IsMade, class-after, grows-after, node-after, not-after, number-after, of-after, plain-after, reads-after, sound-after}
pub use Rattle.class_world.proofs.NewBases.{bases-like, bases-set, bases-sound, early-seen, first-seen, told-seen}
pub use Rattle.class_world.proofs.NodeChanges.{change-grows, change-read, change-sound}
pub use Rattle.class_world.proofs.NodeMembers.{instance-sub, member-grows, member-none, member-read, member-set, member-sound, member-stands, member-there, offset-fits, place-seen, place-told}
pub use Rattle.class_world.proofs.OfClasses.{flag-of, flag-seen, found-seen, found-there, heap-seen, layout-seen, line-seen, node-there, own-seen, own-there, past-seen, past-there, refused-seen, sub-seen, there-seen}
pub use Rattle.class_world.proofs.OneBase.{class-there, flags-seen, no-names, script-given, single-seen, static-given, static-unmarked}
pub use Rattle.class_world.proofs.Opening.{opening-plain, opening-sound}
pub use Rattle.class_world.proofs.PayloadChanges.{payload-grows, payload-read, payload-sound, property-there, there}
pub use Rattle.class_world.proofs.Readable.{readable}
pub use Rattle.class_world.proofs.Reclassed.{class-moved, class-set-holds, class-told, dict-set-holds, gives-seen, same-layout, was-heap}
pub use Rattle.class_world.proofs.Refusals.{layout-first, layout-none, layout-told, name-next, no-name}
pub use Rattle.class_world.proofs.SamePlaces.{empty-hold}
pub use Rattle.class_world.proofs.SoundWorld.{key_at-read, world-sound}
pub use Rattle.class_world.proofs.Stored.{ok-map}
pub use Rattle.class_world.specs.Below.{IfNone, IfSome, IsLogged, Stands, WithMemory, at_depth, cause_of, datum_at, descendants, is_some, is_text, line_places, made_by_script, made_single, nat_lt, next_node, option_and_then, option_map, position, refusal, refused_bases, refused_layout, refused_single, says_so, short_name, single_class, slice_get, string_bytes, with_new_class, with_node}
pub use Rattle.class_world.specs.Bound.{last_function, last_value, value_in}
unfoldable pub use Rattle.class_world.specs.Names.{AddsName}
pub use Rattle.class_world.specs.contracts.world.World.{the_view}
pub use Rattle.plain_machine.proofs.Offsets.{offset-place}
pub use Rattle.plain_machine.specs.Objects.{class_has_flag, derives, is_for_objects, object_for, or_false}
pub use Rattle.plain_machine.specs.Plain.{AText, Node}
pub use Rattle.py_node.specs.declared.built_in.BuiltIn.TheVariants.{Dict, Object, TypeType}
pub use Rattle.std.proofs.Common.{IfOk, List, None, Ok, OnOk, Option, Some, [], add-one, ap, arith, false, get_or, length, length-append, map, map-id, refl, rules, subst, suc, sym, take, true, true≢false, ℕ, ◌∙◌}
pub use Rattle.std.proofs.lemmas.Iterator.{items_from_drains}
pub use Rattle.std.proofs.lemmas.Iterator.Adapters.{YieldsList-from_vec}
pub use Rattle.std.proofs.lemmas.List.{length_push, take-map}
pub use Rattle.std.proofs.lemmas.Result.{on_ok_weaker}
pub use Rattle.std.proofs.lemmas.Slice.Zip.{zip_end, zip_turn}
