-- What one more command does to a session's seat.
use Rattle.shared_vm.proofs.Below.{ℕ, true, false, List, [], length, map, Some, None, Result, Ok, Err, refl, sym, ap, ap₂, ◌∙◌, arith, append_assoc, length-append, append-nil, map_push, All-push, All-nil, Tree, tree_of, Turn, TableId, Known, IsFree, Entry, Receipt, ExecFault, OutOfMemory, Failed, IsOf, entries_in, Makes, Executed, Leaves, turn, MayPerform, Stays, IsTurnOf, commands_in, Performed}
use Rattle.std.proofs.Common.{◌≡◌, ◌+◌, ◌≤◌, ◌∷◌, ◌++◌}
use mathlib.Core.List.{IsPrefix}
use Rattle.shared_vm.proofs.Histories.{entries_more}

prefix_trans : {A : Type 0} (xs ys zs : List A) → IsPrefix xs ys → IsPrefix ys zs → IsPrefix xs zs
prefix_trans xs ys zs p q = (p.0 ++ q.0, sym (append_assoc xs p.0 q.0) ∙ (ap (λ w. w ++ q.0) p.1 ∙ q.1))

-- the seat after a turn, whatever it left
record Turned (id : TableId) (old new : Known Entry) : Type 0 where
  lock : new.lock ≡ old.lock
  number : new.number ≡ old.number
  rests : IsFree id new
  seen : IsPrefix old.seen new.seen

turned : (id : TableId) (old new : Known Entry) (before : List (Turn Entry)) (t : Turn Entry) → IsFree id old → Makes old new before t → Turned id old new
turned id old new before t free makes =
    let is = makes.1 in
    record {
      lock = ap (λ (s : Known Entry). s.lock) is;
      number = ap (λ (s : Known Entry). s.number) is;
      rests = (ap (λ (s : Known Entry). s.lock) is ∙ free.0, ap (λ (s : Known Entry). s.in_turn) is);
      seen = prefix_trans old.seen before new.seen makes.0 (t ∷ [], sym (ap (λ (s : Known Entry). s.seen) is));
    }

turned_by : (id : TableId) (old new : Known Entry) (command : Tree) (budget : ℕ) (r : Result Receipt ExecFault) → IsFree id old → Leaves old new command budget r → Turned id old new
turned_by id old new command budget (Ok r) free leaves = turned id old new leaves.0 (turn old.number (Some leaves.1) false) free leaves.2
turned_by id old new command budget (Err OutOfMemory) free leaves = turned id old new leaves.0 (turn old.number leaves.1 true) free leaves.2
turned_by id old new command budget (Err (Failed after)) free leaves = turned id old new leaves.0 (turn old.number None false) free leaves.1

pub stays_none : (id : TableId) (seat : Known Entry) (turns : ℕ) → MayPerform id turns seat → Stays id seat seat
stays_none id seat turns may = record { free = may.free; number = refl; seen = ([], append-nil seat.seen); own = may.own }

pub stays_more : (id : TableId) (first old new : Known Entry) (command : Tree) (budget : ℕ) (r : Result Receipt ExecFault) → Stays id first old → Executed old new command budget r → Stays id first new
stays_more id first old new command budget r stays done =
    let t = turned_by id old new command budget r stays.free done.leaves in
    record { free = t.rests; number = t.number ∙ stays.number; seen = prefix_trans first.seen old.seen new.seen stays.seen t.seen; own = done.own }

pub performed_none : (budget : ℕ) (seat : Known Entry) → Performed budget [] seat seat
performed_none budget seat = record { turns = []; made = sym (append-nil seat.made); commands_are = refl; of_seat = All-nil (IsTurnOf seat.number budget); count = refl }

pub performed_more : (id : TableId) (budget : ℕ) (commands : List Tree) (command : Tree) (first old new : Known Entry) (r : Receipt)
    → Stays id first old → Performed budget commands first old → Executed old new command budget (Ok r) → Performed budget (commands ++ command ∷ []) first new
performed_more id budget commands command first old new r stays was done =
    let leaves = done.leaves in
    let e : Entry = leaves.1 in
    let t : Turn Entry = turn old.number (Some e) false in
    let of : IsOf old.number command budget e = leaves.4 in
    let more : commands_in (was.turns ++ t ∷ []) ≡ commands_in was.turns ++ tree_of e.command.expr ∷ [] =
    ap (map (λ (e : Entry). tree_of e.command.expr)) (entries_more was.turns old.number (Some e) false) ∙ map_push (λ (e : Entry). tree_of e.command.expr) (entries_in was.turns) e in
    record {
      turns = was.turns ++ t ∷ [];
      made = ap (λ (s : Known Entry). s.made) leaves.2.1 ∙ (ap (λ (m : List (Turn Entry)). m ++ t ∷ []) was.made ∙ append_assoc first.made was.turns (t ∷ []));
      commands_are = more ∙ ap₂ (λ (cs : List Tree) (c : Tree). cs ++ c ∷ []) was.commands_are of.command_is;
      of_seat = All-push (IsTurnOf first.number budget) was.turns t was.of_seat (of.seat_is ∙ stays.number, of.budget_is);
      count = length-append was.turns (t ∷ []) ∙ (ap (λ (n : ℕ). n + 1) was.count ∙ sym (length-append commands (command ∷ [])));
    }

-- there is room for one turn more
pub room_left : (id : TableId) (budget turns : ℕ) (commands : List Tree) (first now : Known Entry) → MayPerform id turns first → Performed budget commands first now → length commands + 1 ≤ turns → length now.made + 1 ≤ length first.made + turns
room_left id budget turns commands first now may done few =
    let long : length now.made ≡ length first.made + length done.turns = ap length done.made ∙ length-append first.made done.turns in
    let count = done.count in
    omega arith
