-- The words that the answers of this crate are written in: its lemmas and definitions, and those of crates below.
pub use Rattle.class_model.proofs.Best.{sub-itself, sub-trans}
pub use Rattle.class_model.proofs.Chain.{chain-step, chain-whole}
pub use Rattle.class_model.proofs.Dict.{has-gives}
pub use Rattle.class_model.proofs.Failing.{failing-is}
pub use Rattle.class_model.proofs.Lines.{keeps-bases, keeps-members}
pub use Rattle.class_model.proofs.Names.{place-first}
pub use Rattle.class_model.proofs.Offsets.{place-keeps}
pub use Rattle.class_model.proofs.PlaceOffsets.{offset-apart, offset-below, offset-inherited, offset-place, place-has, place-offset}
unfoldable pub use Rattle.class_model.specs.BuiltIn.{natives_of}
pub use Rattle.class_table.proofs.Along.{entry-given, entry-inherited, held-at, wrapped-along-found, wrapped-along-next, wrapped-end, wrapped-found, wrapped-next}
pub use Rattle.class_table.proofs.AsKept.{base-kept, entry-kept, line-within, slot-kept, subclasses-kept}
pub use Rattle.class_table.proofs.Below.{AreAdded, AreAffected, AreBlame, AreDescendants, AreEmpty, AreFound, AreGiven, AreHeapsSettled, AreNear, AreRanked, AreReached, AreRenewed, AreSettled, AreSound, AreSwapped, AreThere, AreTold, Blame, Cause, Change, Class, ClassChange, ClassFault, Classes, Counts, Decides-has, Distinct, HasLines, Includes, IsCoherent, IsConflict, IsFirstRepeat, IsLeastMerge, IsNear, IsNonDecreasingBy, IsRefreshed, IsRenewed, IsTrial, IsWithout, Known, Object, Part, PyObjectRef, PyStrInterned, PyTypeRef, Ranked, Renewed, RiseBy, Row, SetBases, SlotEntry, StoredClass, Text, Vec, WithMemory, all_built_ins, along, any_has_dict, are_empty, attrs_of, base_of, bases_of, bases_under, breaks_precedence, built_class, by_cause, caused, change_of, class_at, class_of, classes_of, descendants, entry, entry_among, failing, first_along, first_best-held, first_free, fixed_node_count, get_or_from_slice_get, given_entry, has, has_dict, has_its_dict, heads, heap_flags, is_along, is_ascending, is_base_at, is_blamed, is_called, is_class, is_heap, is_heap_ranked, is_one_of, is_ranked, is_same_name, is_static_ranked, is_sub, lin, lin-distinct, lin-least, line_places, list_any, made_by_script, made_of, made_single, member_count-kept, merged, noted, number_at, or_else, own_attrs, own_of, past_first, place_of, places_kept, refreshed_one, refusal, refused, refused_order, renewed_but_line, rows, says_dict, says_so, settled, slice_get-get_or, slice_get_within, slot_by, slots_bring, some-of, struck, trial_at, unique, value_at, value_of, with_bases, with_class_attr, with_class_name, with_heads, with_value, with_values, without, without_class_attr, without_key, wrapped}
pub use Rattle.class_table.proofs.Bests.{found, none-derives, told-err, told-none, told-some}
pub use Rattle.class_table.proofs.Blames.{blame-more, failing-first, failing-none, if-none, if-some, reached-all, reached-more, reached-skip, tried-blamed, tried-spared}
pub use Rattle.class_table.proofs.Cached.{coherent-then, empty-end, empty-next, empty-none, empty-push, empty-start, empty_cached, filled_cached, raised_cached}
pub use Rattle.class_table.proofs.Chains.{base-there}
pub use Rattle.class_table.proofs.Changed.{coherent-final, lines-changed, near-changed, plain-changed, plain-final, untaken}
pub use Rattle.class_table.proofs.ClassLog.Followed.{counts, ends, left-over, next-made, opens, stops}
pub use Rattle.class_table.proofs.ClassLog.Kept.{base-allowed, logged-kept}
pub use Rattle.class_table.proofs.ClassLog.Logged.{follows, heap-changed, heap-made, keeps-begins, logged-made, noted-as, rebase-made, script-change, set-made, single-changed, single-made, taken-made}
pub use Rattle.class_table.proofs.ClassLog.Lone.{kind-static, no-slots}
pub use Rattle.class_table.proofs.Counted.{rise-none, rise-probe, rise-then, rise-within}
pub use Rattle.class_table.proofs.Counts.{count-line, layout-below, layout-none, layout-own, members-agree}
pub use Rattle.class_table.proofs.Descended.{Includes-at, Includes-in, added-next, any-has, distinct-keys, finding-end, finding-full, finding-more, finding-start, found-few, insert_key-place, measured-more, none-past, ranked-is, sub-there, with_place}
pub use Rattle.class_table.proofs.Dicts.{static-says}
pub use Rattle.class_table.proofs.Edited.{set-back, setting, taking}
pub use Rattle.class_table.proofs.Found.{element, limit-place, number-within, place-class, place-number, read-class, read-number, searched-none, searched-place}
pub use Rattle.class_table.proofs.Heaps.{fewer-others, first-others, none-of, only-best}
pub use Rattle.class_table.proofs.KeptLayouts.{layout-passed}
pub use Rattle.class_table.proofs.LastParts.{last-part}
pub use Rattle.class_table.proofs.Lined.{ascends-lined, edited, edited-count, edited-either, edited-err, edited-ok, edited-seen, inside-of, lined-line, lines-added, lines-end, lines-kept, lines-made, lines-of-edited, lines-start, number-lined, plain-lines, plain-of, swapped-lined, with-lines-again, with-lines-at, with-lines-length, with-lines-push}
pub use Rattle.class_table.proofs.Listed.{joined, listed}
pub use Rattle.class_table.proofs.MroMerge.Alone.{alone-of}
pub use Rattle.class_table.proofs.MroMerge.Bases.{lines-bases}
pub use Rattle.class_table.proofs.MroMerge.Blocked.{past-at}
pub use Rattle.class_table.proofs.MroMerge.Classes.{rows-heads, same-class, without-empty, without-first, without-other}
pub use Rattle.class_table.proofs.MroMerge.Heads.{breaks-at, collected, filled-at, kept-at, more-at, past-nil}
pub use Rattle.class_table.proofs.MroMerge.Linearised.{least-merge, none-merge}
pub use Rattle.class_table.proofs.MroMerge.Mapped.{free-at, put_before, rows-step}
pub use Rattle.class_table.proofs.MroMerge.Precedence.{repeat-none}
pub use Rattle.class_table.proofs.MroMerge.Repeats.{first-repeat, none-repeats, repeat-differs, repeat-first}
pub use Rattle.class_table.proofs.MroMerge.Resolved.{cause-of, conflict-of, duplicate-of, order-of, precedence-of}
pub use Rattle.class_table.proofs.MroMerge.Steps.{first-past, merged-empty, merged-step, merged-stuck, struck-fewer}
pub use Rattle.class_table.proofs.Named.{coherent-named, plain-named}
pub use Rattle.class_table.proofs.Noted.{forgotten, noted-all, noted-first, noted-here, noted-none, plain-mid, plain-noted}
pub use Rattle.class_table.proofs.Orders.{follows-of, lines-of, refused-of}
pub use Rattle.class_table.proofs.Owned.{built-there, each-few-yet, each-there-yet, fold-end, fold-more, own-few-yet, own-set, own-there-yet}
pub use Rattle.class_table.proofs.Passed.{base-away_passed, base-here_passed, early-passed, either-none, map-none, order-passed, sound-passed}
pub use Rattle.class_table.proofs.Places.{get-push_cases}
pub use Rattle.class_table.proofs.Probed.{line-some, slot-by_end, slot-by_found, slot-by_next, slot-found}
pub use Rattle.class_table.proofs.Pushed.{base-given, bases-once, best-there, count-given, each-there, line-given, solid-given, step-done, step-full, step-inside, step-lines, there-of}
pub use Rattle.class_table.proofs.Refreshed.{lines-set, near-now, part, part-else, part-end, part-lines, part-skip, part-start, part-then, plain-set, refreshed-else, refreshed-none, refreshed-then}
pub use Rattle.class_table.proofs.Renewing.{away-mid, full-mid, inside-mid, lines-mid, places-mid}
pub use Rattle.class_table.proofs.Settles.{heap-entry-is, heaps-keep, heaps-settled, kept-heap, kind-settled, line-settled, part-heaps, part-written, places-more, settled-both, settled-full, settled-lines, settled-more, settled-plain, settled-skip, settled-start}
pub use Rattle.class_table.proofs.Single.{one-ordered}
pub use Rattle.class_table.proofs.Sought.{added-asked, added-attr, added-class, added-none, away, found-all, nothing, take-more, take-next, take-whole, wider}
pub use Rattle.class_table.proofs.StartParts.{base_below, built-below, built-count, built-dict, fold-rows, in-row, known-distinct, made-limit, made-place, made-there, map-end, map-step, next-new, one-below, one-long, past}
pub use Rattle.class_table.proofs.Swapped.{Swapping, but-line, swapping-end, swapping-line, swapping-next, swapping-start}
pub use Rattle.class_table.proofs.Touched.{affected-is, bases-there}
pub use Rattle.class_table.proofs.Trials.{bases-now, blame-tried, distinct-now, if-ok, is-there, kept-away, known-now, line-of_trial, line-tried, none-among, read-at, read-is, some-trial, there-now, tried-end, tried-more}
pub use Rattle.class_table.proofs.Written.{written-inside}
pub use Rattle.class_table.specs.Below.{base, built_ins, chain_from, is_empty, layout_along, members_in, place_along, place_at, place_count, solid}
pub use Rattle.class_table.specs.Keys.{number_of, numbers, slot_names, table_keys}
pub use Rattle.class_table.specs.Lines.{AreLinesOf, AreLinesTo, part_of, with_line, with_lines}
pub use Rattle.class_table.specs.New.{IsBelow, class_of_new}
pub use Rattle.class_table.specs.Rebase.{Refusal, refused_change, refused_rebase, told}
pub use Rattle.class_table.specs.Start.{HasBuiltIns, Numbered, with_all_own, with_each_own, with_own}
unfoldable pub use Rattle.class_table.specs.Start.{start_classes}
pub use Rattle.py_node.specs.declared.known.Known.TheVariants.{Add}
pub use Rattle.std.proofs.Common.{Bool, Err, IfNone, IfSome, List, None, Ok, OnOk, Option, Result, Some, [], add-one, ap, append-nil, arith, cond, drop, drop-cons, eqb, false, filter, fold, get_or, inl, inr, length, map, not, position, refl, replicate, rules, set, string_bytes, subst, suc, sym, take, true, true≢false, zero, ℕ, ◌∙◌}
pub use Rattle.std.proofs.lemmas.Bool.{cases_eq, eqb-false, eqb-true, false≢true, le-ltb, lt-ltb, or_left}
pub use Rattle.std.proofs.lemmas.Fn.{filter_same}
pub use Rattle.std.proofs.lemmas.List.{get_or_default, length-append, length-map, length-set, map-append, nil_from_length, take_all, take_more, with_items_is}
pub use Rattle.std.proofs.lemmas.List.Quantifiers.{position-Some}
pub use Rattle.std.proofs.lemmas.List.Sorted.{IsNonDecreasingBy-from_sort_by_key, answers_always}
pub use Rattle.std.proofs.lemmas.Str.Pattern.{NoCharPasses-char, rfind_char}
pub use Rattle.std.specs.Prelude.{IsSome, is_some, nat_lt, option_and_then, option_map, slice_get, slice_index_or, vec_len}
pub use Rattle.std.specs.Str.{IsCharBoundary}
