-- The words that the lemmas of this crate are written in: its own definitions, and words and lemmas of crates below.
pub use Rattle.shared_vm.specs.Below.{BeginsWith, CanFollow, Change, Command, Global, Held, IsFree, IsReadable, IsSameSeat, IsWhole, Known, MOST_TURNS, PyStrInterned, Reading, Reads, Run, State, TableId, Text, Told, Tree, Turn, classes_text, fresh_seat, plain, reply_of, start, tree_of, trees_in, turns_by, with_turn}
pub use Rattle.shared_vm.specs.Book.{Adds, IsNameOf, IsOf, IsReplay, IsTrue, Pages, Ran, Stepped, Tells}
pub use Rattle.shared_vm.specs.Journal.{Follows, PlainEntry, count_of, plain_entry, plain_journal, run_of, world_after}
unfoldable pub use Rattle.shared_vm.specs.Journal.{Legal, replay}
pub use Rattle.shared_vm.specs.SharedRun.Crew.{AllDid, AllReady, Did, Each, IsReady, Worked}
pub use Rattle.shared_vm.specs.SharedRun.JournalText.{entries_text}
pub use Rattle.shared_vm.specs.SharedRun.Mix.{Mix, entries_by, session_trees}
pub use Rattle.shared_vm.specs.Turns.{Executed, Leaves, Makes, Named, Stands, entries_in, has_lost, newest, turn}
pub use Rattle.shared_vm.specs.ViewedVm.Published.{Leads, Published, ShowsReplay}
pub use Rattle.shared_vm.specs.ViewedVm.Viewed.{Publishes, Viewed, log_of}
pub use Rattle.shared_vm.specs.Work.{IsTurnOf, MayPerform, Performed, Stays, commands_in}
pub use Rattle.shared_vm.specs.declared.entry.Entry.{Entry}
pub use Rattle.shared_vm.specs.declared.entry.ExecFault.{ExecFault}
pub use Rattle.shared_vm.specs.declared.entry.ExecFault.TheVariants.{Failed, OutOfMemory}
pub use Rattle.shared_vm.specs.declared.entry.Receipt.{Receipt}
pub use Rattle.shared_vm.specs.declared.shared_run.crew.Worker.{Worker}
pub use Rattle.std.proofs.Common.{Bool, Err, List, None, Ok, Option, Result, Some, [], ap, append_assoc, ap₂, arith, cond, drop, eq-eqb, eqb, false, get_or, inl, inr, length, length-append, map, ne_eqb, refl, subst, suc, sym, take, true, zero, ℕ, ◌∙◌}
pub use Rattle.std.proofs.Crossing.{crosses}
pub use Rattle.std.proofs.lemmas.Bool.{cases_lt}
pub use Rattle.std.proofs.lemmas.List.{append-nil, get_or-map, get_or_append_left, get_or_push, length-map, length_push, map-append, map_push, with_items_is}
pub use Rattle.std.proofs.lemmas.List.Elements.{All-cons, All-head, All-nil, All-push, All-rest, All-same, All-tail, All-weaker, filter-append, filter_map-append}
pub use Rattle.std.proofs.lemmas.List.Folds.{list_any-append}
pub use Rattle.std.proofs.lemmas.List.Sums.{count_by-le-length, fold_push, sum_by-append, sum_by-cons}
pub use Rattle.std.proofs.lemmas.Option.{IfSome_then, get_or_from_slice_get}
pub use Rattle.std.proofs.lemmas.Slice.Zip.{get_or-zip, length-zip}
pub use Rattle.std.specs.List.{All, cons_option, sum_by}
pub use Rattle.std.specs.Prelude.{IfSome, OnErr, Vec, min, option_to_list, slice_get, vec_len, zip}
pub use Rattle.std.specs.Vec.{with_items}
