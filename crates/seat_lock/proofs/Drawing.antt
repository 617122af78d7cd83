-- A seat draws a ticket.
use Rattle.seat_lock.proofs.Below.{ℕ, List, [], length, set, get_or, Option, refl, ap, ◌∙◌, subst, arith, All, State, step, keeps, Allows, Turn, MOST_TURNS, View, Stage, Idle, Waits, Holds, IsBelow, total, tickets, ticket_count, turns_made, seats_of, InStage, Fits, HasOneHistory, Hand, drawn}
use Rattle.std.proofs.Common.{◌≡◌, ◌+◌, ◌*◌, ◌%◌, ◌^◌, ◌≤◌, ◌∷◌}
use mathlib.Core.Option.{some, none}
use lib.ListN.{get_elem?}
use Rattle.seat_lock.proofs.Totals.{total_set, total_bound, each_set}
use Rattle.seat_lock.proofs.Placing.{placed_set}
use Rattle.seat_lock.proofs.Functions.{changed, changed_here, changed_else}

module _ {T E : Type 0} (stands : T → List (Turn E) → Type 0) (seats : ℕ) where
  -- the words stay below their end
  pub roomy : (s : State (Option T) (View E)) → (k : HasOneHistory stands seats s) → length k.log + total tickets s.views ≤ 18446744065119617025
  roomy s k =
      let each : (j : ℕ) (u : View E) → get_elem? s.views j ≡ some u → turns_made u + tickets u ≤ MOST_TURNS * seats_of u = λ j u e. (k.each j u e).few in
      let b = total_bound turns_made tickets seats_of MOST_TURNS s.views each in
      let few = k.few in let same = k.seats_are in let made = k.made in omega arith

  -- what the others know does not change
  stays : (log : List (Turn E)) (ticket : ℕ) (owner drawer : ℕ → ℕ) (id j : ℕ) (u : View E) → Fits log ticket owner drawer j u → Fits log (ticket + 1) owner (changed drawer ticket id) j u
  stays log ticket owner drawer id j u f = record { seen = f.seen; told = f.told; owned = f.owned; few = f.few; stage = waits u.stage f.stage }
    where
      waits : (g : Stage) → InStage log ticket drawer j u.seen g → InStage log (ticket + 1) (changed drawer ticket id) j u.seen g
      waits Idle h = tt
      waits (Waits t) h = (changed_else drawer ticket id t (λ same. (let lt = h.2 in omega arith)) ∙ h.0, h.1, (let lt = h.2 in omega arith))
      waits (Holds t) h = (changed_else drawer ticket id t (λ same. (let lt = h.2 in omega arith)) ∙ h.0, h.1, (let lt = h.2 in omega arith), h.3)

  pub draws : (slots id : ℕ) (me : Hand T E) → me.0.stage ≡ Idle → turns_made me.0 + 1 ≤ MOST_TURNS * seats_of me.0
      → Allows (HasOneHistory stands seats) slots id me 0 (λ n. (n + 1) % 2 ^ 64) (drawn (step slots 0 1 0 none) me)
  draws slots id me idle few s k _ at _ =
      let n : ℕ = length k.log + total tickets s.views in
      let v = me.0 in
      let w : View E = record v { stage = Waits (get_or s.words 0 0) } in
      let found : get_or s.words 0 0 ≡ n = ap (λ ws. get_or ws 0 0) k.words_are in
      let none_yet : tickets v ≡ 0 = ap ticket_count idle in
      let sum = total_set tickets s.views id v w at in
      let more : total tickets (set s.views id w) ≡ total tickets s.views + 1 = omega arith in
      let made' : total turns_made (set s.views id w) ≡ length k.log = (let m = total_set turns_made s.views id v w at in let m' = k.made in omega arith) in
      let seats' : total seats_of (set s.views id w) ≡ seats = (let m = total_set seats_of s.views id v w at in let m' = k.seats_are in omega arith) in
      let room = roomy s k in
      let mine = k.each id v at in
      let grown : n + 1 ≡ length k.log + total tickets (set s.views id w) = omega arith in
      let fits : Fits k.log (n + 1) k.owner (changed k.drawer n id) id w =
      record {
        seen = mine.seen;
        told = mine.told;
        owned = mine.owned;
        few = few;
        stage = (changed_here k.drawer n id (get_or s.words 0 0) found, omega arith, omega arith);
      } in
      let each' = subst (λ (x : ℕ). (j : ℕ) (u : View E) → get_elem? (set s.views id w) j ≡ some u → Fits k.log x k.owner (changed k.drawer n id) j u) grown
      (each_set (Fits k.log (n + 1) k.owner (changed k.drawer n id)) s.views id w (λ j u apart e. stays k.log n k.owner k.drawer id j u (k.each j u e)) fits) in (
        w,
        keeps,
        tt,
        record {
          log = k.log;
          owner = k.owner;
          drawer = changed k.drawer n id;
          words_are = ap (λ ws. set ws 0 ((get_or ws 0 0 + 1) % 2 ^ 64)) k.words_are ∙ ap (λ (x : ℕ). x ∷ length k.log ∷ []) (let e : (n + 1) % 18446744073709551616 ≡ length k.log + total tickets (set s.views id w) = omega arith in e);
          made = made';
          seats_are = seats';
          few = k.few;
          numbers = each_set (λ (j : ℕ) (u : View E). All (IsBelow seats) u.accounts) s.views id w (λ j u apart e. k.numbers j u e) (k.numbers id v at);
          by_seats = k.by_seats;
          each = each';
          placed = placed_set stands k.log s.homes s.views id v w at (λ t e. absurd (cc (idle, e))) (λ t e. absurd cc) k.placed;
        },
        refl,
      )
