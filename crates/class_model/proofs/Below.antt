-- The words that the lemmas of this crate are written in: its own definitions, and words and lemmas of crates below.
pub use Rattle.class_model.specs.Below.{BuiltIn, ByItself, ByMapping, BySequence, Cause, Known, LocalPrecedence, MroConflict, Nearest, New, PyObjectRef, SlotEntry, SlotId, Sort, all_slots, bit_and, flat_map, is_none, is_slot, is_some, leb, list_any, ltb, names_of, nat_lt, option_and_then, option_map, slice_get, sort_of, value_of, with_value}
pub use Rattle.class_model.specs.Chain.{IsChain, base_chain, chain_from, steps}
pub use Rattle.class_model.specs.Change.{blamed_along, breaks_precedence, caused, failing, is_blamed, order_cause, stands_past, with_bases, with_changed, with_class, with_class_attr}
pub use Rattle.class_model.specs.Class.{Class, Classes, IsLeastLine, along, bases_of, class_at, first_along, found, found_by, found_past, is_along, is_class, is_sub, lin, own_of, past_first, rekeyed, renamed, subclasses}
pub use Rattle.class_model.specs.Dict.{alike, any_has_dict, dict_with, gives_dict, has_dict, has_its_dict, says_dict}
unfoldable pub use Rattle.class_model.specs.Dict.{gives_within}
pub use Rattle.class_model.specs.Failing.{BreaksPrecedence, IsBlamed, IsFailing, NoneIsBlamed}
pub use Rattle.class_model.specs.Layout.{base, before, best_of, built_ins, derives_all, first_best, first_place, has_members, is_empty, is_place, is_solid, layout, layout_along, member_count, members_in, place_along, place_at, place_count, solid}
unfoldable pub use Rattle.class_model.specs.Layout.{solid_within}
pub use Rattle.class_model.specs.Numbers.{Ascending, ascend_from, is_ascending, limit, numbers_of, past_all}
pub use Rattle.class_model.specs.Offset.{offset_of}
pub use Rattle.class_model.specs.Order.{BeginsWith, Distinct, Includes, IsLeastOrder, IsOrder, Subsequence, all_some, are_subsequences, begins_with, has, is_distinct, is_lexicographic, is_order, is_subsequence, is_within, least, lesser, members_of, ranks, unique, without}
unfoldable pub use Rattle.class_model.specs.Order.{all_arrangements, arrangements, least_order, linear}
pub use Rattle.class_model.specs.Slot.{Keys, Natives, candidates_of, entries, entry, first_with, given_entry, goes_first, has_table, heap_entry, in_turn, is_by_itself, is_heap_at, is_name_of, is_one_of, is_other_node, is_overridden, read_along, slot, without_same, wrapped}
pub use Rattle.class_model.specs.Sound.{AreSound}
unfoldable pub use Rattle.py_node.specs.BuiltIns.{place_of}
pub use Rattle.py_node.specs.declared.built_in.BuiltIn.TheVariants.{Object}
pub use Rattle.std.proofs.Common.{Bool, List, None, Option, Some, [], ap, append_assoc, arith, cond, eqb, false, filter, inl, inr, length, length-append, map, not, refl, subst, suc, sym, true, true≢false, zero, ℕ, ◌∙◌}
pub use Rattle.std.proofs.lemmas.Bool.{and_from, and_parts, both_ways, cases_eq, cases_order, eq-eqb, eqb-false, eqb-true, false_from_ne_true, false≢true, le-leb, le-ltb, leb-true, lt-ltb, ltb-false, ltb-true, ne_eqb, or_cases, or_left, or_right}
pub use Rattle.std.proofs.lemmas.Bool.Decides.{Decides-and, Decides-eqb, Decides-like, Decides-not, Decides-or}
pub use Rattle.std.proofs.lemmas.List.{append-nil, length-map, map-append}
pub use Rattle.std.specs.Bool.{Decides}
