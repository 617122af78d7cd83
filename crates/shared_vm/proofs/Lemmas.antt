-- The words that the answers of this crate are written in: its lemmas and definitions, and those of crates below.
pub use Rattle.shared_vm.proofs.Below.{All, Command, Entry, ExecFault, Global, Held, IsFree, IsReadable, Known, MayPerform, Pages, Performed, Stepped, Tree, Vec, Worked, Worker, count_of, crosses, entries_text, plain_journal, session_trees, tree_of, trees_in, with_items}
pub use Rattle.shared_vm.proofs.Histories.{adds_none, executed_failed, executed_lost, executed_ok, named, stands_kept, stands_lost}
pub use Rattle.shared_vm.proofs.Journals.{few_entries, number_here}
pub use Rattle.shared_vm.proofs.SharedRun.Crews.{first_fresh, first_short, first_taken, fresh_at, fresh_may, kept_len, later_fresh, later_short, may_of_ready, next_free, paired_len, ready_more, run_did, tails_same, worked_in}
pub use Rattle.shared_vm.proofs.SharedRun.Mixes.{mix_of}
pub use Rattle.shared_vm.proofs.SharedRun.Sent.{vm_sync, worker_send}
pub use Rattle.shared_vm.proofs.SharedRun.Texts.{classes_of}
pub use Rattle.shared_vm.proofs.Steps.{on_err, true_added, true_new}
pub use Rattle.shared_vm.proofs.ViewedVm.Publishing.{published, stands-more}
pub use Rattle.shared_vm.proofs.Working.{performed_more, stays_more}
pub use Rattle.std.proofs.Common.{Err, List, None, Ok, Some, [], ap, ap₂, arith, length, refl, rules, subst, sym, vec_len, ℕ, ◌∙◌}
pub use Rattle.std.proofs.lemmas.Iterator.{YieldsList-from_zip}
pub use Rattle.std.proofs.lemmas.Iterator.Adapters.{YieldsList-from_vec}
pub use Rattle.std.proofs.lemmas.Iterator.Consumers.{YieldsList-end, YieldsList-turn}
pub use Rattle.std.proofs.lemmas.List.{length-map, length_push, map_push, places}
