-- The words that the lemmas of this crate are written in: its own definitions, and words and lemmas of crates below.
pub use Rattle.atomic_table.proofs.Lists.{at_set, at_snoc}
pub use Rattle.class_model.specs.Class.{Classes, along, bases_of, class_at, found, is_along, is_class, is_sub, lin}
pub use Rattle.class_model.specs.Order.{all_some, least_order}
unfoldable pub use Rattle.class_model.specs.Order.{linear}
pub use Rattle.class_table.specs.declared.class_log.change.ClassChange.{ClassChange}
pub use Rattle.class_view.specs.Below.{BeginsWith, Change, Reader, change_of, is_same_name, view}
pub use Rattle.class_view.specs.Known.{knows_of}
pub use Rattle.class_view.specs.Lists.{Follows}
pub use Rattle.class_view.specs.Posted.{Posted, posted}
pub use Rattle.class_view.specs.Rule.{Keeps, Shows, newcomer}
pub use Rattle.class_view.specs.declared.rule.View.{View}
pub use Rattle.left_right.specs.Register.{Admits, Forks, Merges, TurnsAt}
pub use Rattle.py_node.specs.declared.refs.PyStrInterned.{PyStrInterned}
pub use Rattle.std.proofs.Common.{Err, IfOk, List, MatchResult, None, Ok, OnErr, OnOk, Option, Result, Some, [], add-one, ap, append-nil, append_assoc, arith, drop, false, fold, get_or, is_some, length, length-append, map, option_and_then, option_map, refl, rules, set, slice_get, subst, suc, sym, take, take-append-drop, vec_len, zero, ℕ, ⊎_elim, ◌∙◌}
pub use Rattle.std.proofs.Math.Seq.{drop-cons}
pub use Rattle.std.proofs.lemmas.Grind.{common_steps}
pub use Rattle.std.proofs.lemmas.List.{get_or-map, length-map, take_all, take_more_same}
pub use Rattle.std.proofs.lemmas.Option.{get_or_from_slice_get, slice_get_within}
