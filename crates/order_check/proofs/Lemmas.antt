-- The words that the answers of this crate are written in: its lemmas and definitions, and those of crates below.
pub use Rattle.class_model.proofs.Numbers.{some-of}
pub use Rattle.class_table.specs.Keys.{numbers}
pub use Rattle.order_check.proofs.Accepted.{right-at, root-told, told-more, told-of}
pub use Rattle.order_check.proofs.Below.{AllNone, AreBefore, AreEarlierTo, AreKeyed, AreLinesOf, AreThere, AreToldTo, Decides-distinct, Entry, IsAnswer, IsApart, IsClosedTo, IsFound, IsFoundLine, IsLine, IsRanking, IsRightAt, IsStuckTo, Line, OnBoth, Vec, all_some, all_some-at, all_some-some, are_ranked, as_str, eq-eqb, eqb-true, false≢true, first_free, first_without, found_pairs, has, have_ranks, is_before, items_view, keys_of, known_in, least_order, list_with, lists_of, lists_told, merged_order, name_in, or_first, order_in, order_told, orders, orders_told, over, roots, rows, slice_get_read, struck-fewer, tells_cycle, told_in, unknown, view, without}
unfoldable pub use Rattle.order_check.proofs.Below.{cycle_of, lines_text}
pub use Rattle.order_check.proofs.ClassFact.{ordered_or_cyclic}
pub use Rattle.order_check.proofs.ClassOrders.Same.{all-same, keyed-same, order-same, shown-at}
pub use Rattle.order_check.proofs.Deciding.{cycle-decided, no-cycle_line, no-order, order-decided, without-agrees}
pub use Rattle.order_check.proofs.Fact.{cycle_of-answer, merged_or_cyclic}
pub use Rattle.order_check.proofs.Finding.{gathered, keep-one, over-right}
pub use Rattle.order_check.proofs.Gathered.{read-all, read-without}
pub use Rattle.order_check.proofs.HierarchyText.ClassesAfter.{all-classes, before-first, class-new, class-old, class-without, last-class, next-class, none-after}
pub use Rattle.order_check.proofs.HierarchyText.Errors.{if-err}
pub use Rattle.order_check.proofs.HierarchyText.InOrder.{value-order}
pub use Rattle.order_check.proofs.HierarchyText.Keys.{base_key-is, key-found, key-missing, place-next, was_new, was_there}
pub use Rattle.order_check.proofs.Keyed.{ascend-distinct, ascend-less, ascend-more, ascend-none, before-at, before-more, before-none, earlier-at, earlier-more, earlier-none, in-order, not-taken, order-earlier, taken, taken-held}
pub use Rattle.order_check.proofs.Knowing.{found-all, known-apart, known-lines}
pub use Rattle.order_check.proofs.LineMerged.{led_or_not}
pub use Rattle.order_check.proofs.Mapped.{rows-step}
pub use Rattle.order_check.proofs.Places.{bases-at, key-at, known-at, known-none, name-at, name-none}
pub use Rattle.order_check.proofs.Ranking.{rank-fewer, ranking-more, ranking-none, ranks-decide, some-stuck, stuck-more, stuck-none, unknown-push, unranked-stuck}
pub use Rattle.order_check.proofs.ReportText.Lines.{all-there, one-more}
pub use Rattle.order_check.proofs.ReportText.Plain.{report-plain}
pub use Rattle.order_check.proofs.Seen.{first-past-gone, first-past-kept, led-none}
pub use Rattle.order_check.proofs.Single.{single-order}
pub use Rattle.order_check.proofs.Someness.{none-of}
pub use Rattle.order_check.proofs.Stepped.{left-end, left-step, walk-back, walk-end, walk-on}
pub use Rattle.order_check.proofs.Tables.{all_none-more, closed-more, closed-none, items_of, none-closed, none-known, orders-known, orders-length, set-fewer, set-known, some-closed}
pub use Rattle.order_check.proofs.Telling.{all-in, all-known, all_some-length, cycle-line, first_without-none, first_without-same}
pub use Rattle.order_check.proofs.WellFounded.{formed-of, is-held, not-has, there-decided}
pub use Rattle.order_check.specs.ClassOrders.Shown.{class_shown, shown}
pub use Rattle.order_check.specs.Found.{found_in, left, up_to, walk}
pub use Rattle.order_check.specs.HierarchyText.Items.{base_keys, class_at, texts}
pub use Rattle.script_text.specs.declared.json_text.items.Unread.TheVariants.{Shape}
pub use Rattle.std.proofs.Common.{All, Bool, Err, List, None, Ok, Option, Result, Some, [], add-one, ap, arith, below_more, cond, drop, false, get_or, length, length-append, map, position, refl, rules, string_bytes, subst, suc, sym, true, zero, ℕ, ◌∙◌}
pub use Rattle.std.proofs.Crossing.{crosses, frees}
pub use Rattle.std.proofs.lemmas.Fn.{filter_same}
pub use Rattle.std.proofs.lemmas.Grind.{common_steps}
pub use Rattle.std.proofs.lemmas.List.{drop_more, length-map, length_push, map-append, take_rest}
pub use Rattle.std.proofs.lemmas.List.Elements.{All-pop, All-push}
pub use Rattle.std.proofs.lemmas.Slice.Zip.{zip_end, zip_turn}
pub use Rattle.std.specs.Prelude.{IfNone, IfOk, IfSome, bytes_eq, not, option_and_then, option_map, slice_get}
