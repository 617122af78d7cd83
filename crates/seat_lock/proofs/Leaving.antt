-- A seat makes its turn: the value is at home again, and the next ticket is served.
use Rattle.seat_lock.proofs.Below.{ℕ, List, [], length, set, get_or, Option, Some, None, refl, sym, ap, ap₂, ◌∙◌, subst, inl, inr, arith, length-append, All, append-nil, All-weaker, All-head, All-cons, All-nil, All-append, State, step, gives, put_back, rest, Allows, Turn, MOST_TURNS, Account, View, Stage, Idle, Waits, Holds, IsBelow, ByBelow, total, account, tickets, ticket_count, turns_made, seats_of, InStage, Agrees, Fits, HasOneHistory, Hand, account_with, left_turn}
use Rattle.std.proofs.Common.{◌<◌, ◌≡◌, ◌≢◌, ◌+◌, ◌*◌, ◌%◌, ◌^◌, ◌≤◌, ◌∷◌, ◌++◌}
use mathlib.Core.Option.{some, none}
use lib.ListN.{get_elem?}
use Rattle.seat_lock.proofs.Totals.{total_set, each_set}
use Rattle.seat_lock.proofs.Histories.{prefix_longer, own_turn, other_turn}
use Rattle.seat_lock.proofs.Drawing.{roomy}

module _ {E : Type 0} (log : List (Turn E)) (n : ℕ) (owner drawer : ℕ → ℕ) (turn : Turn E) (id j : ℕ) (u : View E) (apart : j ≢ id) (mine : owner turn.by ≡ id) (served : drawer (length log) ≡ id) where
  -- another seat's view stands after the turn
  pub others_stay : Fits log n owner drawer j u → Fits (log ++ turn ∷ []) n owner drawer j u
  others_stay f = record {
    seen = prefix_longer u.seen log (turn ∷ []) f.seen;
    told = prefix_longer u.told log (turn ∷ []) f.told;
    owned = All-weaker (λ (a : Account E). (owner a.number ≡ j) × Agrees log a) (λ (a : Account E). (owner a.number ≡ j) × Agrees (log ++ turn ∷ []) a)
        (λ a h. (h.0, other_turn a.number log turn (λ by. apart (sym h.0 ∙ (ap owner (sym by) ∙ mine))) ∙ h.1)) u.accounts f.owned;
    few = f.few;
    stage = later u.stage f.stage;
  }
    where
      later : (g : Stage) → InStage log n drawer j u.seen g → InStage (log ++ turn ∷ []) n drawer j u.seen g
      later Idle h = tt
      later (Waits t) h = (h.0, (let le = h.1 in let ne : ¬ (t ≡ length log) = λ e. apart (sym h.0 ∙ (ap drawer e ∙ served)) in omega (arith, length-append log (turn ∷ []))), h.2)
      later (Holds t) h = absurd (apart (sym h.0 ∙ (ap drawer (sym h.1) ∙ served)))

  pub none_holds : Fits log n owner drawer j u → (t : ℕ) → ¬ (u.stage ≡ Holds t)
  none_holds f t e = let h : InStage log n drawer j u.seen (Holds t) = subst (InStage log n drawer j u.seen) e f.stage in apart (sym h.0 ∙ (ap drawer (sym h.1) ∙ served))

module _ {T E : Type 0} (stands : T → List (Turn E) → Type 0) (seats : ℕ) where
  -- the value is out while a seat holds it
  away : (s : State (Option T) (View E)) (k : HasOneHistory stands seats s) (id : ℕ) (v : View E) (t : ℕ) → get_elem? s.views id ≡ some v → v.stage ≡ Holds t → s.homes ≡ none ∷ []
  away s k id v t at holds = elim k.placed [ inl h ↦ absurd (h.3 id v at t holds) | inr h ↦ h.0 ]

  pub leaves : (turn : Turn E) (slots id : ℕ) (me : Hand T E) (t number : ℕ) (made : List (Turn E)) (x : T) → me.0.stage ≡ Holds t → me.0.accounts ≡ account number made ∷ [] → turn.by ≡ number
      → me.1 ≡ (0, Some x) ∷ [] → stands x (me.0.seen ++ turn ∷ []) → Allows (HasOneHistory stands seats) slots id me 1 (λ m. (m + 1) % 2 ^ 64) (left_turn turn (step slots 1 1 0 none) me)
  leaves turn slots id me t number made x holds is by has ok s k wide at small =
      let v = me.0 in
      let n : ℕ = length k.log + total tickets s.views in
      let log' : List (Turn E) = k.log ++ turn ∷ [] in
      let long : length log' ≡ length k.log + 1 = length-append k.log (turn ∷ []) in
      let w : View E = record v { stage = Idle; seen = v.seen ++ turn ∷ []; accounts = account_with turn v.accounts } in
      let becomes : account_with turn v.accounts ≡ account number (made ++ turn ∷ []) ∷ [] = ap (account_with turn) is in
      let one : tickets v ≡ 1 = ap ticket_count holds in
      let was : turns_made v ≡ length made + 0 = ap (total (λ (a : Account E). length a.made)) is in
      let now : turns_made w ≡ length (made ++ turn ∷ []) + 0 = ap (total (λ (a : Account E). length a.made)) becomes in
      let longer : length (made ++ turn ∷ []) ≡ length made + 1 = length-append made (turn ∷ []) in
      let single : seats_of v ≡ 1 = ap length is in
      let single' : seats_of w ≡ 1 = ap length becomes in
      let fewer : total tickets (set s.views id w) + 1 ≡ total tickets s.views = (let sum = total_set tickets s.views id v w at in omega arith) in
      let made' : total turns_made (set s.views id w) ≡ length log' = (let m = total_set turns_made s.views id v w at in let m' = k.made in omega arith) in
      let seats' : total seats_of (set s.views id w) ≡ seats = (let m = total_set seats_of s.views id v w at in let m' = k.seats_are in omega arith) in
      let mine = k.each id v at in
      let held : InStage k.log n k.drawer id v.seen (Holds t) = subst (InStage k.log n k.drawer id v.seen) holds mine.stage in
      let served : k.drawer (length k.log) ≡ id = ap k.drawer held.1 ∙ held.0 in
      let own = All-head (λ (a : Account E). (k.owner a.number ≡ id) × Agrees k.log a) (account number made) [] (subst (All (λ (a : Account E). (k.owner a.number ≡ id) × Agrees k.log a)) is mine.owned) in
      let seen_all : v.seen ++ turn ∷ [] ≡ log' = ap (λ (l : List (Turn E)). l ++ turn ∷ []) held.3 in
      let same : n ≡ length log' + total tickets (set s.views id w) = omega arith in
      let few : turns_made w + 0 ≤ MOST_TURNS * seats_of w = (let f = mine.few in omega arith) in
      let fits : Fits log' n k.owner k.drawer id w =
      record {
        seen = ([], append-nil (v.seen ++ turn ∷ []) ∙ seen_all);
        told = prefix_longer v.told k.log (turn ∷ []) mine.told;
        owned = subst (All (λ (a : Account E). (k.owner a.number ≡ id) × Agrees log' a)) (sym becomes)
            (All-cons (λ (a : Account E). (k.owner a.number ≡ id) × Agrees log' a) (account number (made ++ turn ∷ [])) []
            (own.0, own_turn number k.log turn by ∙ ap (λ (l : List (Turn E)). l ++ turn ∷ []) own.1) (All-nil (λ (a : Account E). (k.owner a.number ≡ id) × Agrees log' a)));
        few = few;
        stage = tt;
      } in
      let mine_by : k.owner turn.by ≡ id = ap k.owner by ∙ own.0 in
      let each' = subst (λ (y : ℕ). (j : ℕ) (u : View E) → get_elem? (set s.views id w) j ≡ some u → Fits log' y k.owner k.drawer j u) same
      (each_set (Fits log' n k.owner k.drawer) s.views id w (λ j u apart e. others_stay k.log n k.owner k.drawer turn id j u apart mine_by served (k.each j u e)) fits) in
      let low : number < seats = All-head (IsBelow seats) (account number made) [] (subst (All (IsBelow {E = E} seats)) is (k.numbers id v at)) in
      let room = roomy stands seats s k in
      let next : (length k.log + 1) % 18446744073709551616 ≡ length log' = omega arith in (
        w,
        gives,
        tt,
        record {
          log = log';
          owner = k.owner;
          drawer = k.drawer;
          words_are = ap (λ ws. set ws 1 ((get_or ws 1 0 + 1) % 2 ^ 64)) k.words_are ∙ ap₂ (λ (a b : ℕ). a ∷ b ∷ []) same next;
          made = made';
          seats_are = seats';
          few = k.few;
          numbers = each_set (λ (j : ℕ) (u : View E). All (IsBelow seats) u.accounts) s.views id w (λ j u apart e. k.numbers j u e)
              (subst (All (IsBelow {E = E} seats)) (sym becomes) (All-cons (IsBelow seats) (account number (made ++ turn ∷ [])) [] low (All-nil (IsBelow seats))));
          by_seats = All-append (ByBelow seats) k.log (turn ∷ []) k.by_seats (All-cons (ByBelow seats) turn [] (subst (λ (m : ℕ). m < seats) (sym by) low) (All-nil (ByBelow seats)));
          each = each';
          placed = inl (
            x,
            ap (put_back s.homes) has ∙ ap (λ hs. set hs 0 (some (Some x))) (away s k id v t at holds),
            subst (stands x) seen_all ok,
            each_set (λ (j : ℕ) (u : View E). (t : ℕ) → ¬ (u.stage ≡ Holds t)) s.views id w (λ j u apart e. none_holds k.log n k.owner k.drawer turn id j u apart mine_by served (k.each j u e)) (λ t e. absurd cc),
          );
        },
        refl,
      )

  -- the same of a seat that has just put the value back
  pub leaves_after : (turn : Turn E) (slots id : ℕ) (old new : Hand T E) (x : T) → (t : ℕ) × (old.0.stage ≡ Holds t) → old.1 ≡ (0, None) ∷ [] → (made : List (Turn E)) × (old.0.accounts ≡ account turn.by made ∷ [])
      → stands x (old.0.seen ++ turn ∷ []) → new ≡ (old.0, (0, Some x) ∷ rest old.1) → Allows (HasOneHistory stands seats) slots id new 1 (λ m. (m + 1) % 2 ^ 64) (left_turn turn (step slots 1 1 0 none) new)
  leaves_after turn slots id old new x held out one ok is =
      let me : Hand T E = (old.0, (0, Some x) ∷ rest old.1) in
      let P : Hand T E → Type 0 = λ m. Allows (HasOneHistory stands seats) slots id m 1 (λ m. (m + 1) % 2 ^ 64) (left_turn turn (step slots 1 1 0 none) m) in
      subst P (sym is) (leaves turn slots id me held.0 turn.by one.0 x held.1 one.1 refl (ap (λ (s : List (ℕ × Option T)). (0, Some x) ∷ rest s) out) ok)
