-- What a seat is left with that published the classes.
use Rattle.shared_vm.proofs.Below.{ℕ, false, List, [], length, None, Result, Ok, Err, sym, ap, subst, ◌∙◌, Turn, turns_by, Known, IsSameSeat, with_turn, Told, Entry, ExecFault, OutOfMemory, Failed, Legal, plain_journal, Pages, IsReplay, IsTrue, entries_in, Stands, turn, newest, Viewed, log_of, Publishes, ShowsReplay, Leads, Published}
use Rattle.std.proofs.Common.{◌≡◌, ◌∷◌, ◌++◌}
use mathlib.Core.List.{IsPrefix}
use Rattle.shared_vm.proofs.Histories.{adds_none, makes, newest_is, numbered, stands_kept}

-- however it ends, the book is as it was
pub same-book : (old new : Viewed) (r : Result (ℕ × Told) ExecFault) → Publishes old new r → new.book ≡ old.book
same-book old new (Ok r) p = p.1
same-book old new (Err OutOfMemory) p = p.1
same-book old new (Err (Failed after)) p = ap (λ (v : Viewed). v.book) p.1

-- so it stands for an empty turn more
pub stands-more : (seen : List (Turn Entry)) (by : ℕ) (old new : Viewed) (r : Result (ℕ × Told) ExecFault) → Publishes old new r → Stands old.book seen → Stands new.book (seen ++ newest by seen new.book.journal false ∷ [])
stands-more seen by old new r p stands =
    let same = same-book old new r p in
    stands_kept seen by old.book new.book None stands (adds_none old.book new.book same) (ap (λ (b : Pages). b.machine.failed) same)

leads-of : (seen : List (Turn Entry)) (old new : Viewed) (r : Result (ℕ × Told) ExecFault) → Publishes old new r → Stands old.book seen → IsTrue old.book → Leads seen r
leads-of seen old new (Ok r) p stands keeps =
    let P : List Entry → Type 0 = λ j. IsReplay old.book.machine (plain_journal j) in
    let shows : ShowsReplay (log_of old.book) (plain_journal (entries_in seen)) = record { machine = old.book.machine; replay = subst P stands.journal (keeps.world p.0); shows = p.5 } in
    (sym stands.failed ∙ p.0, (log_of old.book, p.4, shows))
leads-of seen old new (Err OutOfMemory) p stands keeps = sym stands.failed ∙ p.0
leads-of seen old new (Err (Failed after)) p stands keeps = (sym stands.failed ∙ p.0, p.2 ∙ ap length stands.journal)

-- a seat that took the book, published and gave it back
pub published : (old mid new : Known Entry) (was after : Viewed) (r : Result (ℕ × Told) ExecFault) → IsSameSeat old mid → IsPrefix old.seen mid.seen → Stands was.book mid.seen → IsTrue after.book → Publishes was after r → turns_by new.number new.seen ≡ new.made → new ≡ with_turn mid (newest mid.number mid.seen after.book.journal false) → Published old new r
published old mid new was after r same more stands true-after p own is =
    let book = same-book was after r p in
    let T : Pages → Type 0 = λ b. IsTrue b in
    let keeps = subst T book true-after in
    let picked = newest mid.number mid.seen after.book.journal false in
    let turned = newest_is mid.seen mid.number was.book after.book None stands (adds_none was.book after.book book) false ∙ numbered None false mid.number old.number same.1 in
    let then = stands-more mid.seen mid.number was after r p stands in
    let P : List Entry → Type 0 = λ j. Legal (plain_journal j) in
    record {
      before = mid.seen;
      makes = makes old mid new picked (turn old.number None false) same more is turned;
      leads = leads-of mid.seen was after r p stands keeps;
      legal = subst P (ap (λ (b : Pages). b.journal) (sym book) ∙ then.journal ∙ sym (ap (λ (s : Known Entry). entries_in s.seen) is)) keeps.legal;
      own = own;
    }
