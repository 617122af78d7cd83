-- The words that the answers of this crate are written in: its lemmas and definitions, and those of crates below.
pub use Rattle.class_world.proofs.Claims.{all-append, all-grow, more-nodes, no-nodes, node-in}
pub use Rattle.class_world.proofs.DictChanges.{none-hold}
pub use Rattle.class_world.proofs.Growth.{grows-itself, grows-on}
pub use Rattle.class_world.proofs.KeyEntries.{keys-can, pair-holds}
pub use Rattle.class_world.proofs.Stored.{ok-map}
pub use Rattle.class_world.specs.Keyed.{of_entries, of_keyed, of_pairs}
pub use Rattle.class_world.specs.Sound.{AllHold, AreNodes, Holding, Holds, IsNode, of_payload}
pub use Rattle.native_containers.proofs.Below.{ANumber, AText, ATuple, ComparedKept, DoCollect, DoIndex, DoSpecial, End, Ends, Err, GetItem, Held, IfOk, IterEnd, MissingKey, NewBool, NewInt, NewStr, NewTuple, Next, Ok, ReadObjects, Reading, Some, Starts, ToAttribute, ToProtocol, Truth, Value, [], ap, append_assoc, arith, bindings, common_steps, compare_native_say, datum, datum_at, dict_filled, dict_updated, drop, ended_of, ends_none, entries_at, false, fault, fold, get_or, in_length, is_some, items_at, known_text, length, list_changed, most_items, names_set, nat_le, next_node, none, object_made, plain, pos, raised, ref, refl, remove, repr_text, slice_get, slice_range, slice_set, string_bytes, subst, suc, sym, take, take_all, the_int, the_str, value, with_node, ℕ, ◌∙◌}
unfoldable pub use Rattle.native_containers.proofs.Below.{item_job_say}
pub use Rattle.native_containers.proofs.Changed.{update-says}
pub use Rattle.native_containers.proofs.Ends.{stop-safe, then-ended}
pub use Rattle.native_containers.proofs.Filled.{two-filled}
pub use Rattle.native_containers.proofs.Loops.{keyword-holds}
pub use Rattle.native_containers.proofs.NativeCompare.Begun.{begins-ok}
pub use Rattle.native_containers.proofs.NativeCompare.Turns.{asks-none, asks-two, compares-turns, left-here, none-first, none-second, resumes-end, resumes-turn}
pub use Rattle.native_containers.proofs.NativeCompare.Values.{value-more, values-first}
pub use Rattle.native_containers.proofs.NativeItems.InPlace.{fewer-by-one, items-changed, leads-to}
pub use Rattle.native_containers.proofs.NativeItems.Iterating.{character-next, item-next, nothing-next, unknown-next}
pub use Rattle.native_containers.proofs.NativeItems.Natives.{getter-is, searcher-is}
pub use Rattle.native_containers.proofs.NativeItems.Ranges.{both-nodes, found-holds, put-nodes, range-nodes, set-nodes, without-nodes}
pub use Rattle.native_containers.proofs.NativeItems.Searches.{search-begins, search-goes}
pub use Rattle.native_containers.proofs.NativeItems.Standing.{del-asked, deleting-alike, extend-asked, extending-alike, get-asked, getting-alike, set-asked, set-part-asked, setting-alike}
pub use Rattle.native_containers.proofs.NativeItems.Steps.{asks-does, ends-does, ends-resumes, one-enters, refused-enters, same-does-ok, three-enters, two-enters}
pub use Rattle.native_containers.proofs.NativeConversions.Asking.{drop-got, drop-none, text-asks, text-finish, text-more, text-other, text-refused, text-starts}
pub use Rattle.native_containers.proofs.NativeConversions.Contents.{flat-nodes, no-parts}
pub use Rattle.native_containers.proofs.NativeConversions.Given.{one-given, two-given}
pub use Rattle.native_containers.proofs.NativeConversions.Hashes.{hash-asks, hash-finish, hash-more, hash-other, hash-refused, hash-starts}
pub use Rattle.native_containers.proofs.NativeConversions.Heirs.{bool-alone, bool-asks, bool-said, bool-waits, int-alone, int-asks, int-new, int-none, int-said, int-same, int-waits, str-alone, str-asks, str-new, str-said, str-same, str-waits, tuple-alone, tuple-asks, tuple-said, tuple-waits}
pub use Rattle.native_containers.proofs.NativeConversions.Joined.{closed, long, part-more, short, too-long}
pub use Rattle.native_containers.proofs.NativeConversions.Made.{made-so, maker-alone, maker-asks, maker-refused, wrapper-asks, wrapper-ended, wrapper-many, wrapper-refused}
pub use Rattle.native_containers.proofs.NativeTexts.Inside.{inside}
pub use Rattle.native_containers.proofs.NativeTexts.Repr.{utf8_repr}
pub use Rattle.native_containers.proofs.Payloads.{entries-all, entry-more}
pub use Rattle.native_containers.proofs.Under.{length-new, length-put, not-taken, taken}
pub use Rattle.native_containers.specs.Below.{Compare, DelItem, InplaceAdd, IsUtf8, NewOf, OfIterator, OfList, OfTuple, SetItem, chars, encode_utf8_all, list_made, of_task, text_made, tuple_made}
pub use Rattle.native_containers.specs.NativeCompare.Containers.{dicts_by, in_turn, sequences_by, turns_of}
pub use Rattle.native_containers.specs.NativeCompare.Rows.{left}
pub use Rattle.native_containers.specs.NativeItems.Items.{char_rest, chars_at, del_asked, del_item, del_rest, extend, extend_rest, get_item, item_asked, item_got, look_for, placed, set_item, set_rest}
pub use Rattle.native_containers.specs.NativeItems.Iterators.{found_in, iterator_in, next_by, next_from, next_in, next_item, next_place, next_rest, with_place}
pub use Rattle.native_containers.specs.NativeItems.Places.{part, place_at, put_between, put_part}
pub use Rattle.native_containers.specs.NativeItems.Rows.{Enters, Resumes, getter_of, items_stood, made_as, next_asked, of_item_kept, searcher_of, stood_told}
pub use Rattle.native_containers.specs.NativeConversions.Texts.{closing, flattened, hashed_on, parts_in, text_at}
pub use Rattle.native_containers.specs.declared.native_items.ItemKept.TheVariants.{Deleting, Extending, Getting, GettingCharacter, Iterating, Searching, Setting}
pub use Rattle.plain_machine.specs.Dicts.{Entries, entries_in, with_entries, with_entry}
unfoldable pub use Rattle.py_node.specs.BuiltIns.{place_of}
pub use Rattle.py_node.specs.Dicts.{PlainDict}
pub use Rattle.py_node.specs.declared.protocol.ProtocolTask.TheVariants.{Collect, Index}
pub use Rattle.py_node.specs.declared.task.Task.TheVariants.{Protocol}
pub use Rattle.row_kit.proofs.ContainersPayloads.{no-entries, nodes-append}
pub use Rattle.row_kit.proofs.Ended.{sorted_ends, sorted_ok, stop_ends}
pub use Rattle.row_kit.specs.declared.take_containers.Kind.TheVariants.{Iterator, List}
pub use Rattle.std.proofs.iter.TextItems.{spells}
pub use Rattle.std.proofs.lemmas.Int.{ints, to_z-of_z}
pub use Rattle.std.proofs.lemmas.Iterator.{YieldsList, YieldsList-from_chars, YieldsList-from_take, text_from_collect}
pub use Rattle.std.proofs.lemmas.Iterator.Adapters.{YieldsList-from_skip, option_map_id}
pub use Rattle.std.proofs.lemmas.Iterator.Consumers.{nth_from_yields_List}
pub use Rattle.std.proofs.lemmas.List.{length-set}
pub use Rattle.std.proofs.lemmas.Result.{err_from_is_err_and}
pub use Rattle.std.proofs.lemmas.Str.{Chars-Drains, encodes-chars}
pub use Rattle.std.proofs.lemmas.Str.Pattern.{contains_text}
pub use Rattle.std.specs.Int.{w128, w64}
pub use Rattle.std.specs.Iterator.Adapters.{skip_steps}
