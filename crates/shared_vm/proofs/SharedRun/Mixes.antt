-- The journal of seats that did what they were to do is a mix of their sessions.
use Rattle.shared_vm.proofs.Below.{ℕ, List, [], length, get_or, map, refl, sym, ap, ◌∙◌, subst, arith, append_assoc, IfSome, All, All-weaker, IfSome_then, Tree, Turn, turns_by, IsWhole, TableId, Known, Entry, PlainEntry, plain_journal, entries_in, IsTurnOf, commands_in, AllDid, Did, Mix}
use Rattle.std.proofs.Common.{◌≡◌, ◌+◌, ◌<◌, ◌∷◌, ◌++◌}
use mathlib.Core.List.{IsPrefix}
use Rattle.shared_vm.proofs.SharedRun.Entries.{each_turn, each_entry, IsOwn, entries_of_turns, commands_plain, first_entries}

pub prefix_trans : {A : Type 0} (xs ys zs : List A) → IsPrefix xs ys → IsPrefix ys zs → IsPrefix xs zs
prefix_trans xs ys zs p q = (p.0 ++ q.0, sym (append_assoc xs p.0 q.0) ∙ (ap (λ w. w ++ q.0) p.1 ∙ q.1))

below : (a b n m : ℕ) → a ≡ b → b < n → n ≡ m → a < m
below a b n m is less same = omega arith

abbrev IsTurn : ℕ → Turn Entry → Type 0
IsTurn budget t = IsTurnOf t.by budget t

module _ (id : TableId) (budget n : ℕ) (opening : List (Turn Entry)) (sessions : List (List Tree)) (s : Known Entry) (ss : List (Known Entry)) (log : List (Turn Entry))
    (did : AllDid id budget opening sessions (s ∷ ss)) (len : length (s ∷ ss) ≡ length sessions) (count : n ≡ length sessions) (some : 0 < n) (whole : IsWhole n (s ∷ ss) log) where
  within : (k : ℕ) → k < n → k < length (s ∷ ss)
  within k less = below k k n (length (s ∷ ss)) refl less (count ∙ sym len)

  did_at : (k : ℕ) → k < n → Did id budget opening (get_or sessions k []) k (get_or (s ∷ ss) k s)
  did_at k less = did k s (within k less)

  made : (k : ℕ) → k < n → turns_by k log ≡ (get_or (s ∷ ss) k s).made
  made k less = subst (λ (m : ℕ). turns_by m log ≡ (get_or (s ∷ ss) k s).made) (did_at k less).number (whole.own k s (within k less))

  turns : All (IsTurn budget) log
  turns = each_turn (λ (k : ℕ) (t : Turn Entry). IsTurnOf k budget t) n log whole.by_seats
      (λ k less. subst (λ (ts : List (Turn Entry)). All (IsTurnOf k budget) ts) (sym (made k less)) (did_at k less).of_seat)

  own : All IsOwn log
  own = All-weaker (IsTurn budget) IsOwn (λ t p. IfSome_then t.entry p (λ e q. q.0)) log turns

  budgets : All (λ (e : PlainEntry). e.budget ≡ budget) (plain_journal (entries_in log))
  budgets = each_entry (λ (e : PlainEntry). e.budget ≡ budget) log
      (All-weaker (IsTurn budget) (λ (t : Turn Entry). IfSome t.entry (λ (e : Entry). e.budget ≡ budget)) (λ t p. IfSome_then t.entry p (λ e q. q.1)) log turns)

  seats : All (λ (e : PlainEntry). e.seat < length sessions) (plain_journal (entries_in log))
  seats = each_entry (λ (e : PlainEntry). e.seat < length sessions) log
      (λ k d less. IfSome_then (get_or log k d).entry (own k d less) (λ e is. below e.seat (get_or log k d).by n (length sessions) is (whole.by_seats k d less) count))

  first_front : IsPrefix opening log
  first_front = prefix_trans opening (get_or (s ∷ ss) 0 s).seen log (did_at 0 some).seen (whole.seen 0 s (within 0 some))

  mix : Mix (plain_journal (entries_in log)) sessions budget
  mix = record {
    opening_first = first_entries n opening first_front.0 log first_front.1 whole.by_seats ((did_at 0 some).opened refl ∙ sym (made 0 some)) (λ k later less. (did_at k less).behind later) own;
    in_order = λ k less.
        let less' : k < n = below k k (length sessions) n refl less (sym count) in
        ap (map (λ (e : PlainEntry). e.command)) (entries_of_turns k log own) ∙ (commands_plain (entries_in (turns_by k log)) ∙ (ap commands_in (made k less') ∙ (did_at k less').commands));
    budget_is = budgets;
    by_seats = seats;
  }

pub mix_of : (id : TableId) (budget n : ℕ) (opening : List (Turn Entry)) (sessions : List (List Tree)) (seats : List (Known Entry)) (journal : List Entry) (log : List (Turn Entry))
    → AllDid id budget opening sessions seats → length seats ≡ length sessions → n ≡ length sessions → 0 < n → journal ≡ entries_in log → IsWhole n seats log
    → Mix (plain_journal journal) sessions budget
mix_of id budget n opening sessions [] journal log did len count some is whole = let no : ⊥ = omega (arith, len, count, some) in absurd no
mix_of id budget n opening sessions (s ∷ ss) journal log did len count some is whole =
    subst (λ (j : List Entry). Mix (plain_journal j) sessions budget) (sym is) (mix id budget n opening sessions s ss log did len count some whole)
