-- The table at the start and at the end.
use Rattle.seat_lock.proofs.Below.{ℕ, zero, suc, List, [], length, Option, Some, refl, sym, ap, ◌∙◌, subst, inl, inr, arith, All, All-nil, All-cons, opening, Final, Seen, Turn, MOST_TURNS, Account, View, Idle, Holds, IsBelow, ByBelow, total, account, blank_from, founder, tickets, ticket_count, turns_made, seats_of, Agrees, Fits, HasOneHistory}
use Rattle.std.proofs.Common.{◌≡◌, ◌≢◌, ◌+◌, ◌*◌, ◌<◌, ◌≤◌, ◌∷◌}
use mathlib.Core.Option.{some, some-ne-none, some-injective}
use mathlib.Core.List.{IsPrefix}
use mathlib.Core.Logic.{dite}
use native.Mathlib.Decide.{ℕ_discrete}
use lib.ListN.{get_elem?}
use Rattle.seat_lock.proofs.Totals.{total_alone, total_two, one_view}
use Rattle.seat_lock.proofs.Cutting.{blanks_made, blanks_long, blanks_below}
use Rattle.seat_lock.proofs.Looking.{all_true}
use Rattle.seat_lock.proofs.Histories.{prefix_nil}

abbrev IsBlank : {E : Type 0} → ℕ → Account E → Type 0
IsBlank n a = (n ≡ 0) × Agrees [] a

blanks_true : (E : Type 0) (k n : ℕ) → All (IsBlank {E = E} 0) (blank_from k n)
blanks_true E k zero = All-nil (IsBlank {E = E} 0)
blanks_true E k (suc n) = All-cons (IsBlank {E = E} 0) (account k []) (blank_from (suc k) n) (refl, refl) (blanks_true E (suc k) n)

module _ {T E : Type 0} (stands : T → List (Turn E) → Type 0) (seats : ℕ) where
  pub opens : (x : T) → stands x [] → seats < 4294967296 → HasOneHistory stands seats (opening (0 ∷ 0 ∷ []) (Some x ∷ []) (founder seats))
  opens x ok few =
      let v : View E = founder seats in
      let made : turns_made v ≡ 0 = blanks_made E 0 seats in
      let long : seats_of v ≡ seats = blanks_long E 0 seats in
      record {
        log = [];
        owner = λ _. 0;
        drawer = λ _. 0;
        words_are = refl;
        made = (let z : turns_made v + 0 ≡ 0 = omega arith in z);
        seats_are = (let z : seats_of v + 0 ≡ seats = omega arith in z);
        few = few;
        numbers = low;
        by_seats = All-nil (ByBelow {E = E} seats);
        each = one;
        placed = inl (x, refl, ok, free);
      }
    where
      first : Fits {E = E} [] 0 (λ _. 0) (λ _. 0) 0 (founder seats)
      first = record { seen = prefix_nil []; told = prefix_nil []; owned = blanks_true E 0 seats; few = (let m = blanks_made E 0 seats in let z : turns_made (founder {E = E} seats) + 0 ≤ MOST_TURNS * seats_of (founder {E = E} seats) = omega arith in z); stage = tt }

      one : (j : ℕ) (u : View E) → get_elem? (founder {E = E} seats ∷ []) j ≡ some u → Fits {E = E} [] 0 (λ _. 0) (λ _. 0) j u
      one zero u e = subst (Fits {E = E} [] 0 (λ _. 0) (λ _. 0) 0) (some-injective _ _ e) first
      one (suc j) u e = absurd (some-ne-none u (sym e))

      low : (j : ℕ) (u : View E) → get_elem? (founder {E = E} seats ∷ []) j ≡ some u → All (IsBelow seats) u.accounts
      low zero u e = subst (λ (y : View E). All (IsBelow seats) y.accounts) (some-injective _ _ e) (blanks_below E 0 seats seats (omega arith))
      low (suc j) u e = absurd (some-ne-none u (sym e))

      free : (j : ℕ) (u : View E) → get_elem? (founder {E = E} seats ∷ []) j ≡ some u → (t : ℕ) → ¬ (u.stage ≡ Holds t)
      free zero u e t h = absurd (let i : Idle ≡ Holds t = ap (λ (y : View E). y.stage) (some-injective _ _ e) ∙ h in cc)
      free (suc j) u e t h = absurd (some-ne-none u (sym e))

  -- what a table shows whose one seat with accounts has all of them, and is idle
  abbrev pub Shows : View E → List (Option T) → Type 0
  Shows v slots = (x : T) × (get_elem? slots 0 ≡ some (Some x)) × ((log : List (Turn E)) × stands x log × IsPrefix v.seen log × All (Agrees log) v.accounts × (turns_made v ≡ length log) × All (ByBelow seats) log)

  pub closes : (id : ℕ) (v : View E) (words : List ℕ) (slots : List (Option T)) → v.stage ≡ Idle → seats_of v ≡ seats → Final (Seen (HasOneHistory stands seats) id v) words slots → Shows v slots
  closes id v words slots idle all f =
      let s = f.0 in
      let k : HasOneHistory stands seats s = f.1.0 in
      let at : get_elem? s.views id ≡ some v = f.1.1 in
      let none_else : (j : ℕ) (u : View E) → j ≢ id → get_elem? s.views j ≡ some u → seats_of u ≡ 0 =
      λ j u apart e. (let both = total_two seats_of s.views id j v u at e apart in let sum = k.seats_are in omega arith) in
      let no_turns : (j : ℕ) (u : View E) → j ≢ id → get_elem? s.views j ≡ some u → turns_made u ≡ 0 =
      λ j u apart e. (let none = none_else j u apart e in let few = (k.each j u e).few in omega arith) in
      let no_tickets : (j : ℕ) (u : View E) → j ≢ id → get_elem? s.views j ≡ some u → tickets u ≡ 0 =
      λ j u apart e. (let none = none_else j u apart e in let few = (k.each j u e).few in omega arith) in
      let mine = k.each id v at in
      let made : turns_made v ≡ length k.log = sym (total_alone turns_made s.views id v at no_turns) ∙ k.made in
      let n : ℕ = length k.log + total tickets s.views in
      let home : (x : T) × (s.homes ≡ some (Some x) ∷ []) × stands x k.log =
      elim k.placed [
        | inl h ↦ (h.0, h.1, h.2)
        | inr h ↦
            let one : tickets h.1.1 ≡ 1 = ap ticket_count h.1.3 in
            absurd (dite (ℕ_discrete h.1.0 id)
            (λ same. let g : Idle ≡ Holds (length k.log) = sym idle ∙ (ap (λ (y : View E). y.stage) (one_view s.views id v h.1.1 at (subst (λ (j : ℕ). get_elem? s.views j ≡ some h.1.1) same h.1.2)) ∙ h.1.3) in absurd cc)
            (λ apart. let none = no_tickets h.1.0 h.1.1 apart h.1.2 in absurd (omega arith)))
      ] in
      (home.0, f.4 0 (Some home.0) (ap (λ hs. get_elem? hs 0) home.1), (k.log, home.2, mine.seen, all_true stands seats k.log n k.owner k.drawer id v mine, made, k.by_seats))
