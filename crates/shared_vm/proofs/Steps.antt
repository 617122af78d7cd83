-- What a run of one command, and its entry, come to.
use Rattle.shared_vm.proofs.Below.{false, List, [], Result, Ok, Err, refl, sym, ap, ◌∙◌, subst, OnErr, map_push, reply_of, tree_of, Run, start, Reading, Reads, plain, IsReadable, State, Entry, plain_entry, plain_journal, run_of, replay, count_of, Legal, Pages, IsTrue, Ran}
use Rattle.std.proofs.Common.{◌≡◌, ◌∷◌, ◌++◌}
use Rattle.shared_vm.proofs.Journals.{legal_none, legal_more, replay_more}

-- the entry of a command that was run
pub true_more : (old : Pages) (machine : State) (e : Entry) → IsTrue old → old.machine.failed ≡ false
    → Ran (tree_of e.command.expr) old.machine.world e.budget machine.world (reply_of e.reply) → IsReadable machine.world
    → e.number ≡ count_of e.seat (plain_journal old.journal) → IsTrue (record { machine = machine; journal = old.journal ++ e ∷ [] })
true_more old machine e holds clear ran readable number =
    let j = plain_journal old.journal in
    let p = plain_entry e in
    let more : plain_journal (old.journal ++ e ∷ []) ≡ j ++ p ∷ [] = map_push plain_entry old.journal e in
    let was = holds.world clear in
    let run : (t : Reading) → Reads t machine.world → run_of (replay j) p ≡ record { world = plain t machine.world; replies = reply_of e.reply ∷ [] } =
    λ t reads. let r = ran t reads in ap (λ w. run_of w p) (sym (was.world t r.0)) ∙ r.1 in
    record {
      legal = subst Legal (sym more) (legal_more j p holds.legal (record { reply = ap (λ (r : Run). r.replies) (run readable.0 readable.1); number = number }));
      world = λ _. record {
        readable = readable;
        world = λ t reads. sym (ap replay more ∙ (replay_more j p ∙ ap (λ (r : Run). r.world) (run t reads)));
      };
    }

-- the same, as the steps of the code have it: room was made, the entries so far were read, and the entry was put behind them
pub true_added : (old : Pages) (machine : State) (e : Entry) (room read all : List Entry) → IsTrue old → old.machine.failed ≡ false
    → Ran (tree_of e.command.expr) old.machine.world e.budget machine.world (reply_of e.reply) → IsReadable machine.world
    → e.number ≡ count_of e.seat (plain_journal read) → read ≡ room → room ≡ old.journal → all ≡ room ++ e ∷ [] → IsTrue (record { machine = machine; journal = all })
true_added old machine e room read all holds clear ran readable number reads same grown =
    let counted = number ∙ ap (λ (j : List Entry). count_of e.seat (plain_journal j)) (reads ∙ same) in
    let longer : all ≡ old.journal ++ e ∷ [] = grown ∙ ap (λ (j : List Entry). j ++ e ∷ []) same in
    subst (λ (j : List Entry). IsTrue (record { machine = machine; journal = j })) (sym longer) (true_more old machine e holds clear ran readable counted)

start_is : replay [] ≡ start
unfolding replay
start_is = refl

-- a new book
pub true_new : (machine : State) (journal : List Entry) → journal ≡ [] → IsReadable machine.world → ((t : Reading) → Reads t machine.world → plain t machine.world ≡ start) → IsTrue (record { machine = machine; journal = journal })
true_new machine journal none readable fresh =
    let new : IsTrue (record { machine = machine; journal = [] }) = record {
      legal = legal_none;
      world = λ _. record { readable = readable; world = λ t reads. fresh t reads ∙ sym start_is };
    } in
    subst (λ (j : List Entry). IsTrue (record { machine = machine; journal = j })) (sym none) new

pub on_err : {T E X : Type 0} (r : Result T E) → X → OnErr r X
on_err (Ok v) x = tt
on_err (Err e) x = x
