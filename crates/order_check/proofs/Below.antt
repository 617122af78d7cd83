-- The words that the lemmas of this crate are written in: its own definitions, and words and lemmas of crates below.
pub use Rattle.class_model.proofs.Arranged.{least_order-none, least_order-order}
pub use Rattle.class_model.proofs.Depth.{linear-known, linear-member}
pub use Rattle.class_model.proofs.Held.{Includes-equal, Includes-flat_map, Includes-left, Includes-map, Includes-right, Includes-sides, Subsequence-holds, Subsequence-more, Subsequence-rest, distinct-fewer, from_flat_map, from_without}
pub use Rattle.class_model.proofs.Linear.{all_some-at, all_some-has, all_some-holds, linear-grows, linear-made, linear-same, linear-zero}
pub use Rattle.class_model.proofs.Lines.{all_some-some}
pub use Rattle.class_model.proofs.Numbers.{at-here, at-number, at-past, no-less}
pub use Rattle.class_model.proofs.OneBase.{least_order-one_base}
pub use Rattle.class_model.proofs.Rule.{all_some-map, lin-begins, lin-distinct, lin-from, lin-held, lin-rule}
pub use Rattle.class_model.proofs.Tests.{Decides-distinct, Decides-has}
pub use Rattle.class_model.specs.Numbers.{ascend_from, numbers_of}
pub use Rattle.class_model.specs.Order.{BeginsWith, Distinct, Includes, IsOrder, Subsequence, all_some, has, is_distinct, is_within, least_order, linear, members_of, without}
pub use Rattle.class_table.proofs.MroMerge.Merged.{first-some}
unfoldable pub use Rattle.class_table.proofs.MroMerge.Merged.{Free}
pub use Rattle.class_table.proofs.MroMerge.Steps.{least_order-merged, merged-empty, merged-step, merged-stuck, struck-fewer}
pub use Rattle.class_table.proofs.MroMerge.Struck.{flat-struck, without-none}
pub use Rattle.order_check.specs.Below.{AreLinesOf, Bor, Class, Classes, Data, IsApart, IsMerge, Items, Shape, Text, Vec, are_empty, array, as_str, bases_of, boolean, class_at, escaped, first_free, heads, item, items_view, lin, members, merged, no_items, null, number, numbers, object, of_two, past, past_first, stands_past, string, struck, texts_in, view}
pub use Rattle.order_check.specs.ClassOrders.Shown.{Shown, class_shown}
pub use Rattle.order_check.specs.Cycle.{Before, BeforeIn, BeginsWithLeast, HasMerge, HasNoCycle, IsAnswer, IsChain, IsCycle, IsMergedOrCyclic, are_chained, first_or, is_before, is_before_in}
unfoldable pub use Rattle.order_check.specs.Forms.{AreAscending, AreBefore, AreEarlierTo}
pub use Rattle.order_check.specs.Found.{found_from, holder, least_from, left_by, turned, turned_from, up_to}
unfoldable pub use Rattle.order_check.specs.Found.{cycle_of, left, left_after, walk}
pub use Rattle.order_check.specs.Hierarchy.{AreKeyed, IsInOrder, all_orders, class_of, classes, keys_of, name_in, order_in, orders}
pub use Rattle.order_check.specs.HierarchyText.Items.{base_key, base_keys, texts}
pub use Rattle.order_check.specs.HierarchyText.Spelled.{Named, PlainClass, and_after, class_after, first_class, key_of, keyed, named, named_of, or_first, plain_class, with_first}
unfoldable pub use Rattle.order_check.specs.HierarchyText.Spelled.{classes_after, classes_in, classes_of}
pub use Rattle.order_check.specs.Known.{AllNone, AreLinesFor, CanFind, IsClosedAt, IsFound, known_in, over, step, unknown}
unfoldable pub use Rattle.order_check.specs.Known.{AreKnown, IsClosedTo}
pub use Rattle.order_check.specs.Line.{first_of, is_led, is_same, rest}
pub use Rattle.order_check.specs.Lists.{rows}
pub use Rattle.order_check.specs.Orders.{AreIn, HasOrder, IsOrderedOrCyclic, lists_of}
pub use Rattle.order_check.specs.Report.{AreFound, IsCycleLine, IsFoundLine, IsLine, IsReport, IsRightAt, OnBoth, TellsCycle, first_without, found_pairs, list_with, pair_in, pairs_of, pairs_to}
pub use Rattle.order_check.specs.ReportText.PlainReport.{cycle_pairs, line_by, line_from, model_class, name_among, order_among, shown_among}
unfoldable pub use Rattle.order_check.specs.ReportText.PlainReport.{plain_line, plain_report}
pub use Rattle.order_check.specs.ReportText.ReportText.{cycle_shown, line_of, line_text, pair_shown, report_text, shown}
unfoldable pub use Rattle.order_check.specs.ReportText.ReportText.{lines_text}
pub use Rattle.order_check.specs.Told.{are_told, firsts, is_least, is_same_list, is_told, lists_past, lists_told, merged_order, or_empty, order_told, orders_told, tells_cycle, told_in}
unfoldable pub use Rattle.order_check.specs.Told.{AreToldTo}
pub use Rattle.order_check.specs.WellFormed.{AreApart, AreBases, AreThere, IsBase, IsStuckAt, IsWellFormed, all_within, are_ranked, have_ranks, roots}
unfoldable pub use Rattle.order_check.specs.WellFormed.{IsRanking, IsStuckTo}
pub use Rattle.order_check.specs.declared.hierarchy.Entry.{Entry}
pub use Rattle.order_check.specs.declared.hierarchy.Hierarchy.{Hierarchy}
pub use Rattle.order_check.specs.declared.known.Lines.{Lines}
pub use Rattle.order_check.specs.declared.levels.Found.{Found}
pub use Rattle.order_check.specs.declared.report.Line.{Line}
pub use Rattle.order_check.specs.declared.report.Line.TheVariants.{Cycle, Order, Without}
pub use Rattle.order_check.specs.declared.report.Pair.{Pair}
pub use Rattle.script_text.proofs.JsonText.Lists.{onto, onto-found}
pub use Rattle.script_text.specs.declared.json_text.error.ScriptFault.{ScriptFault}
pub use Rattle.serde_json.specs.declared.value.Value.{Value}
pub use Rattle.std.proofs.Common.{All, Bool, List, None, Ok, Option, Some, [], add-one, ap, append-nil, append_assoc, arith, below_more, cond, drop, eqb, false, get_or, inl, inr, length, ltb, map, min, nat_lt, not, ok_or, position, refl, set, subst, suc, sym, take, true, zero, ℕ, ◌∙◌}
pub use Rattle.std.proofs.Math.Seq.{drop-cons}
pub use Rattle.std.proofs.lemmas.Bool.{and_parts, both_ways, cases_eq, eq-eqb, eqb-false, eqb-true, false≢true, le-leb, le-ltb, leb-true, lt-ltb, ltb-false, ltb-true, ne_eqb}
pub use Rattle.std.proofs.lemmas.Bool.Decides.{Decides-and, Decides-eqb, Decides-or}
pub use Rattle.std.proofs.lemmas.List.{drop_all, drop_more, get_or-map, get_or_at, length-append, length-map, length-set, length-take-le, map-append, map-set, map_more, set_at, take-append-drop, take_more}
pub use Rattle.std.proofs.lemmas.List.Elements.{All-cons, All-nil, All-pop}
pub use Rattle.std.proofs.lemmas.Option.{slice_get-get_or, slice_get_past, slice_get_read, slice_get_within}
pub use Rattle.std.specs.Bool.{Decides}
pub use Rattle.std.specs.List.{AllZip, cons_option, filter_map, flat_map, list_any, position_or_len}
pub use Rattle.std.specs.Prelude.{Err, IfErr, IfOk, IfSome, MatchResult, Result, bytes_eq, codes, is_none, is_some, leb, option_and_then, option_map, option_to_list, slice_get, string_bytes}
