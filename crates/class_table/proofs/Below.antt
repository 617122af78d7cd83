-- The words that the lemmas of this crate are written in: its own definitions, and words and lemmas of crates below.
pub use Rattle.class_model.proofs.Agreed.{bind-agrees, entry-agrees}
pub use Rattle.class_model.proofs.Arranged.{least_order-least, least_order-none, least_order-order}
pub use Rattle.class_model.proofs.Best.{best-moves, best-stays, sub-itself}
pub use Rattle.class_model.proofs.Chain.{base-class}
pub use Rattle.class_model.proofs.Changed.{bases_of-last, lin-by, lin-push}
pub use Rattle.class_model.proofs.Dict.{alike-same, dicts-rebased}
pub use Rattle.class_model.proofs.Failing.{breaks-from, breaks-to, failing-none}
pub use Rattle.class_model.proofs.Held.{Includes-equal, Includes-filter, Includes-flat_map, Includes-left, Includes-map, Includes-right, Includes-sides, Includes-without, Subsequence-full, Subsequence-holds, Subsequence-itself, Subsequence-length, Subsequence-more, Subsequence-rest, Subsequence-skip, distinct-fewer, from_flat_map, from_without, length-without}
pub use Rattle.class_model.proofs.Kept.{is_class-kept, lin-kept, member_count-kept, sound-kept}
pub use Rattle.class_model.proofs.Layouts.{best-along, solid-rule, top}
pub use Rattle.class_model.proofs.Lexicographic.{other_way}
pub use Rattle.class_model.proofs.Linear.{all_some-has, all_some-holds, linear-made, linear-same, linear-zero}
pub use Rattle.class_model.proofs.Lines.{all_some-some, bases-distinct, best-value, keeps-members, lin-value, lines-below, solid-value, subsequence-distinct}
pub use Rattle.class_model.proofs.Made.{solid-made, sound-made}
pub use Rattle.class_model.proofs.Numbers.{Decides-ascending, ascending-push, at-before, at-changed, at-changed_away, at-changed_here, at-from_place, at-held, at-last, at-number, at-place, below-limit, length-changed, limit-last, no-less, numbers-changed, old-or-last, some-of}
pub use Rattle.class_model.proofs.OneBase.{least_order-no_base, least_order-one_base}
pub use Rattle.class_model.proofs.Renamed.{at-renamed, best_of-renamed, is_sub-renamed, lin-renamed, numbers-renamed, solid-renamed}
pub use Rattle.class_model.proofs.Rule.{all_some-map, lin-along, lin-bases, lin-begins, lin-below, lin-classes, lin-distinct, lin-from, lin-held, lin-inside, lin-least, lin-member, lin-rule, lin-within}
pub use Rattle.class_model.proofs.Slots.{entries-along, entries-push}
pub use Rattle.class_model.proofs.Solid.{base-agrees, base-push, best-one_some, bound, first_best-agrees, first_best-held, solid-held, solid-push, solid-solid, solid_within-same}
pub use Rattle.class_model.proofs.Subclasses.{subclasses-new, subclasses-push}
pub use Rattle.class_model.proofs.Tests.{Decides-distinct, Decides-has}
pub use Rattle.class_model.specs.Change.{blamed_along, breaks_precedence, caused, failing, is_blamed, order_cause, stands_past, with_bases, with_changed, with_class, with_class_attr, with_class_name, without_class_attr}
pub use Rattle.class_model.specs.Class.{Class, Classes, along, bases_of, class_at, first_along, is_along, is_class, is_heap, is_sub, lin, or_else, own_of, past_first, renamed, subclasses}
pub use Rattle.class_model.specs.Collect.{attributes_along, attrs_of, with_values}
pub use Rattle.class_model.specs.Dict.{alike, any_has_dict, dict_with, has_dict, has_its_dict, heap_class, is_dict, keeps_dict, says_dict, slot_members, slots_bring}
pub use Rattle.class_model.specs.Failing.{NoneIsBlamed}
pub use Rattle.class_model.specs.Layout.{base, best_of, built_ins, derives_all, first_best, has_members, is_empty, is_solid, layout, layout_along, member_count, members_in, place_along, place_count, solid}
unfoldable pub use Rattle.class_model.specs.Layout.{solid_within}
pub use Rattle.class_model.specs.Name.{dot, last_part, part_from}
pub use Rattle.class_model.specs.Numbers.{ascend_from, is_ascending, limit, numbers_of, past_all}
pub use Rattle.class_model.specs.Order.{BeginsWith, Distinct, Includes, IsOrder, Subsequence, all_some, has, is_distinct, is_lexicographic, least_order, linear, members_of, rank, ranks, unique, without}
pub use Rattle.class_model.specs.Slot.{entries, entry, given_entry, heap_entry, is_by_itself, is_heap_at, is_name_of, is_one_of, read_along, slot, wrapped}
pub use Rattle.class_model.specs.Start.{bases_from, built_class, built_in_classes}
pub use Rattle.class_table.specs.Affected.{AreAffected}
pub use Rattle.class_table.specs.Below.{AreDistinct, AreNamesDistinct, AreSound, Attr, Bor, BuiltIn, Cause, DuplicateBase, EmptyBases, ImmutableType, InheritanceCycle, Known, LayoutConflict, LayoutDiffers, LocalPrecedence, MroConflict, NotBaseType, PyObjectRef, PyStrInterned, PyTypeFlags, PyTypeRef, SlotEntry, SlotId, Text, Vec, bit_and, entry_among, fixed_node_count, heap_flags, heap_type, is_same_name, natives_of, option_or, value_of, with_value, without_key}
pub use Rattle.class_table.specs.Blame.{AllReached, AreBlame, AreReached, IsBlame, IsBlamed, IsReached, IsSpared}
pub use Rattle.class_table.specs.Cache.{AreEmpty, IsCached, TellsIfAny}
pub use Rattle.class_table.specs.Causes.{AllFit, AreLined, AreTold, BreaksOrder, Fits, HasDuplicate, HasLayoutConflict, HasNoLine, LacksBase}
pub use Rattle.class_table.specs.ClassLog.Change.{Change, DelOwn, Made, Make, SetBases, SetOwn, change_of, made_of}
pub use Rattle.class_table.specs.ClassLog.Following.{CanFollow, Continues, Keeps}
pub use Rattle.class_table.specs.ClassLog.Logged.{AreSameButForNames, IsGiven, IsGivenTo, IsLogged, made_by_script, made_single, unnamed}
pub use Rattle.class_table.specs.ClassLog.Refused.{AreMade, IsFit, IsMade, IsOfItsKind, by_cause, refused, refused_made, refused_static}
pub use Rattle.class_table.specs.ClassLog.Shown.{changed, is_of_script, made_class, shown, static_class}
unfoldable pub use Rattle.class_table.specs.ClassLog.Shown.{first_classes}
pub use Rattle.class_table.specs.Coherent.{HasLines, IsCoherent}
pub use Rattle.class_table.specs.Descendants.{AreDescendants, AreFollowed, AreMeasured, AreRanked, Descends, descendants}
pub use Rattle.class_table.specs.Given.{AreGiven}
pub use Rattle.class_table.specs.Inherit.{Follows, best_along, better, better_of, fault_of, is_under, next_best, number_best, then_best}
pub use Rattle.class_table.specs.Keys.{numbers, table_keys}
pub use Rattle.class_table.specs.Lines.{AreLinesTo, IsWithin, part_of, with_line, with_lines}
pub use Rattle.class_table.specs.Made.{IsFresh, noted}
pub use Rattle.class_table.specs.MroMerge.Faults.{OnRefusal, Tells}
pub use Rattle.class_table.specs.MroMerge.Lists.{rows}
pub use Rattle.class_table.specs.MroMerge.Merge.{AreLines, AreLinesOf, AreOutOfOrder, DifferByRanks, HasNoMerge, HasNoOrder, IsApart, IsBrokenPrecedence, IsConflict, IsFirstRepeat, IsLeastMerge, IsMerge, IsOrderConflict, IsRest, heads, members, with_heads}
pub use Rattle.class_table.specs.MroMerge.Steps.{after, are_empty, first_free, past, repeat_past, struck}
unfoldable pub use Rattle.class_table.specs.MroMerge.Steps.{merge, merged}
pub use Rattle.class_table.specs.Name.{IsLastPart}
pub use Rattle.class_table.specs.New.{IsBelow, IsBest}
pub use Rattle.class_table.specs.OneBase.{refused_single, says_so, single_class, static_flags}
pub use Rattle.class_table.specs.Patch.{AreNear, IsNear, IsRefreshed, NoneNamed, refreshed_one, settled}
pub use Rattle.class_table.specs.Probe.{AreAdded, AreFound, is_called, slot_by, value_at, value_found}
pub use Rattle.class_table.specs.Rebase.{Refusal, any_derives, is_same, refused_change, refused_rebase, refused_shape, unless}
pub use Rattle.class_table.specs.Refused.{AreThere, IsEarly, WithMemory, are_apart, is_base_at, most_derived, refusal, refused_after, refused_attr, refused_base, refused_bases, refused_layout, refused_lines, refused_order}
pub use Rattle.class_table.specs.Renewed.{AreRenewed, AreSwapped, IsRenewed, renewed_but_line, with_renewed}
pub use Rattle.class_table.specs.Settle.{AreHeapsSettled, AreSettled, is_heap_ranked, is_ranked, is_static_ranked, line_kept, line_length, line_places, places_kept}
pub use Rattle.class_table.specs.Start.{HasBuiltIns, Numbered, number_past, start_classes, value_number, with_all_own}
unfoldable pub use Rattle.class_table.specs.Start.{with_own}
pub use Rattle.class_table.specs.Steps.{Counts, RiseBy}
pub use Rattle.class_table.specs.Stored.{IsHere, StoredClass, class_of, classes_of, number_at}
pub use Rattle.class_table.specs.Table.{any_filled, table_sort}
pub use Rattle.class_table.specs.Trial.{AreKnown, AreTried, HasTrial, IsKnown, IsToBlame, IsTrial, IsWithout, bases_under, cause_tried, line_tried, trial_at}
pub use Rattle.class_table.specs.declared.blame.Blame.{Blame}
pub use Rattle.class_table.specs.declared.cache.Cache.{Cache}
pub use Rattle.class_table.specs.declared.cache.Row.{Row}
pub use Rattle.class_table.specs.declared.class_log.change.ClassChange.{ClassChange}
pub use Rattle.class_table.specs.declared.descendants.Ranked.{Ranked}
pub use Rattle.class_table.specs.declared.fault.ClassFault.{ClassFault}
pub use Rattle.class_table.specs.declared.fault.ClassFault.TheVariants.{Refused, RefusedAt}
pub use Rattle.class_table.specs.declared.lines.Part.{Part}
pub use Rattle.class_table.specs.declared.mro_merge.fault.MroFault.{MroFault}
pub use Rattle.class_table.specs.declared.mro_merge.fault.MroFault.TheVariants.{OutOfMemory}
pub use Rattle.class_table.specs.declared.renew.Renewed.{Renewed}
pub use Rattle.class_table.specs.declared.trial.Trial.{Trial}
pub use Rattle.class_table.specs.declared.trial.Trial.TheVariants.{Failed, Line, Without}
pub use Rattle.indexmap.specs.IndexSet.{insert_key}
pub use Rattle.py_node.proofs.SlotTables.{slot-at_place}
unfoldable pub use Rattle.py_node.specs.BuiltIns.{all_built_ins, base_of, built_in_bases, built_in_flags, flags_of}
unfoldable pub use Rattle.py_node.specs.Known.{known_texts, number_of}
unfoldable pub use Rattle.py_node.specs.OwnAttrs.{own_attrs}
pub use Rattle.py_node.specs.Slots.{is_slot, sort_of}
unfoldable pub use Rattle.py_node.specs.Slots.{all_slots, names_of, place_of, slot_names}
pub use Rattle.py_node.specs.contracts.entry.SlotId.{the_type}
pub use Rattle.py_node.specs.declared.built_in.BuiltIn.TheVariants.{Object}
pub use Rattle.py_node.specs.declared.entry.SlotEntry.TheVariants.{Unhashable, Wrapper}
pub use Rattle.py_node.specs.declared.entry.SlotId.TheVariants.{Add, Hash, New}
pub use Rattle.std.proofs.Common.{Bool, Err, IsTrue, List, None, Ok, OnErr, OnOk, Option, Result, Some, [], add-one, add-zero, ap, append-nil, append_assoc, arith, cond, drop, eqb, false, filter, fold, get_or, inl, inr, length, ltb, map, nat_eq, not, refl, replicate, rules, set, subst, suc, sym, take, true, true≢false, zero, ℕ, ◌∙◌}
pub use Rattle.std.proofs.Math.ListN.{drop_of_length-le}
pub use Rattle.std.proofs.Math.Seq.{drop-append_seam}
pub use Rattle.std.proofs.lemmas.Bool.{and_parts, both_ways, cases_Bool, cases_eq, cases_lt, eq-eqb, eqb-false, eqb-true, false_from_ne_true, false≢true, le-leb, le-ltb, leb-true, lt-leb, lt-ltb, ltb-false, ltb-true, ne_eqb, or_cases, or_from, or_parts, or_right}
pub use Rattle.std.proofs.lemmas.Bool.Decides.{Decides-eqb, eqb_tells, nat_tests}
pub use Rattle.std.proofs.lemmas.Cmp.{ranked}
pub use Rattle.std.proofs.lemmas.Grind.{and_not_bit}
pub use Rattle.std.proofs.lemmas.List.{drop-append-le, drop-map, drop_at, drop_more, get_or-map, get_or-set_other, get_or-set_same, get_or_at, get_or_push, length-append, length-drop, length-map, length-set, length-take-le, map-append, map-set, map_more, map_push, set-get_or, set-set, set_at, take-append-drop, take-append-le, take_all, take_more, take_rest}
pub use Rattle.std.proofs.lemmas.List.Elements.{All-append, All-cons, All-head, All-nil, All-push, All-set, All-tail, All-weaker, filter-append}
pub use Rattle.std.proofs.lemmas.List.Sorted.{Contains-permutation, IsNonDecreasingBy-from_default, IsPermutation-sym, sum_by-IsPermutation}
pub use Rattle.std.proofs.lemmas.List.Sums.{fold-append, sum_by-cons, sum_by_push}
pub use Rattle.std.proofs.lemmas.Nat.{and_or_self}
pub use Rattle.std.proofs.lemmas.Option.{get_or_from_slice_get, slice_get-get_or, slice_get-map, slice_get_within}
pub use Rattle.std.proofs.lemmas.Slice.Eq.{bytes_eq-Decides}
pub use Rattle.std.specs.List.{All, AllByRecursion, AllZip, flat_map, list_any, sum_by}
unfoldable pub use Rattle.std.specs.List.{IsDistinct}
pub use Rattle.std.specs.List.Sorted.{IsBinarySearchResult, IsNonDecreasingBy, IsPermutation, IsSearchInRange}
pub use Rattle.std.specs.Map.{keys_of}
pub use Rattle.std.specs.Ordering.{nat_cmp, ordering_index}
pub use Rattle.std.specs.Prelude.{IfErr, IfNone, IfOk, IfSome, is_none, is_some, leb, nat_lt, option_and_then, option_map, slice_get, slice_index_or, unwrap_or}
pub use Rattle.std.specs.Str.{bytes_eq}
