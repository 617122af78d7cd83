-- A seat looks which ticket is served, and takes the value where it is its own.
use Rattle.seat_lock.proofs.Below.{ℕ, zero, suc, List, [], length, set, get_or, Option, Some, refl, sym, ap, ◌∙◌, subst, inl, inr, arith, All, All-weaker, State, Act, step, keeps, takes, stepped, Allows, Valid, carried_after, set_again, set_here, Turn, MOST_TURNS, Account, View, Stage, Idle, Waits, Holds, IsBelow, total, tickets, ticket_count, turns_made, seats_of, InStage, Agrees, Fits, HasOneHistory, ticket_of, Hand, looked, Served, learnt}
use Rattle.std.proofs.Common.{◌≡◌, ◌+◌, ◌*◌, ◌<◌, ◌≤◌, ◌∷◌}
use mathlib.Core.Option.{some, none}
use mathlib.Core.Logic.{dite}
use native.Mathlib.Decide.{ℕ_discrete}
use lib.ListN.{get_elem?}
use Rattle.seat_lock.proofs.Totals.{total_set, each_set, one_view, below}
use Rattle.seat_lock.proofs.Placing.{placed_same}
use Rattle.seat_lock.proofs.Histories.{prefix_self, prefix_nil}

module _ {T E : Type 0} (stands : T → List (Turn E) → Type 0) (seats : ℕ) where
  -- nothing changed
  pub unmoved : (s : State (Option T) (View E)) → HasOneHistory stands seats s → (id i : ℕ) (me : Hand T E) → get_elem? s.views id ≡ some me.0 → i < 2
      → HasOneHistory stands seats (stepped s i (get_or s.words i 0) id me.1 me.0 keeps)
  unmoved s k id i me at small =
      let two = k.words_are in
      let there : get_elem? s.words i ≡ some (get_or s.words i 0) = subst (λ (ws : List ℕ). get_elem? ws i ≡ some (get_or ws i 0)) (sym two) (of_two (length k.log + total tickets s.views) (length k.log) i small) in
      subst (λ (x : List ℕ × List (View E)). HasOneHistory stands seats (record { words = x.0; homes = s.homes; views = x.1 })) (λ j. (sym (set_again s.words i (get_or s.words i 0) there) j, sym (set_again s.views id me.0 at) j)) k
    where
      of_two : (a b i : ℕ) → i < 2 → get_elem? (a ∷ b ∷ []) i ≡ some (get_or (a ∷ b ∷ []) i 0)
      of_two a b zero h = refl
      of_two a b (suc zero) h = refl
      of_two a b (suc (suc i)) h = absurd (omega arith)

  -- the value is at home where the ticket that is served is a waiting seat's
  at_home : (s : State (Option T) (View E)) (k : HasOneHistory stands seats s) (id : ℕ) (v : View E) (t : ℕ) → get_elem? s.views id ≡ some v → v.stage ≡ Waits t → t ≡ length k.log
      → (x : T) × (s.homes ≡ some (Some x) ∷ []) × stands x k.log
  at_home s k id v t at waits served =
      elim k.placed [
        | inl h ↦ (h.0, h.1, h.2)
        | inr h ↦
            let n : ℕ = length k.log + total tickets s.views in
            let theirs : InStage k.log n k.drawer h.1.0 h.1.1.seen (Holds (length k.log)) = subst (InStage k.log n k.drawer h.1.0 h.1.1.seen) h.1.3 (k.each h.1.0 h.1.1 h.1.2).stage in
            let mine : InStage k.log n k.drawer id v.seen (Waits t) = subst (InStage k.log n k.drawer id v.seen) waits (k.each id v at).stage in
            let same : h.1.0 ≡ id = sym theirs.0 ∙ (ap k.drawer (sym served) ∙ mine.0) in
            let one : h.1.1 ≡ v = one_view s.views id h.1.1 v (subst (λ (j : ℕ). get_elem? s.views j ≡ some h.1.1) same h.1.2) at in
            absurd (let e : Waits t ≡ Holds (length k.log) = sym waits ∙ (ap (λ (u : View E). u.stage) (sym one) ∙ h.1.3) in cc)
      ]

  -- the history so far is that of each of its accounts
  pub all_true : (log : List (Turn E)) (n : ℕ) (owner drawer : ℕ → ℕ) (id : ℕ) (v : View E) → Fits log n owner drawer id v → All (Agrees log) v.accounts
  all_true log n owner drawer id v f = All-weaker (λ (a : Account E). (owner a.number ≡ id) × Agrees log a) (Agrees log) (λ a h. h.1) v.accounts f.owned

  serves : (id : ℕ) (me : Hand T E) (t : ℕ) → me.0.stage ≡ Waits t → me.1 ≡ [] → (s : State (Option T) (View E)) (k : HasOneHistory stands seats s) → get_elem? s.views id ≡ some me.0 → t ≡ length k.log
      → (w : View E) × (a : Act (Option T)) × Valid s.homes me.1 a × HasOneHistory stands seats (stepped s 1 (get_or s.words 1 0) id me.1 w a) × Served stands me (get_or s.words 1 0) (w, carried_after me.1 a)
  serves id me t waits empty s k at served =
      let n : ℕ = length k.log + total tickets s.views in
      let r : ℕ = get_or s.words 1 0 in
      let found : r ≡ length k.log = ap (λ ws. get_or ws 1 0) k.words_are in
      let home = at_home s k id me.0 t at waits served in
      let v = me.0 in
      let w : View E = record v { stage = Holds r; seen = k.log } in
      let one : tickets v ≡ 1 = ap ticket_count waits in
      let sum = total_set tickets s.views id v w at in
      let same : total tickets (set s.views id w) ≡ total tickets s.views = omega arith in
      let made' : total turns_made (set s.views id w) ≡ length k.log = (let m = total_set turns_made s.views id v w at in let m' = k.made in omega arith) in
      let seats' : total seats_of (set s.views id w) ≡ seats = (let m = total_set seats_of s.views id v w at in let m' = k.seats_are in omega arith) in
      let mine = k.each id v at in
      let queued : InStage k.log n k.drawer id v.seen (Waits t) = subst (InStage k.log n k.drawer id v.seen) waits mine.stage in
      let less : r < n = (let lt = queued.2 in omega arith) in
      let few : turns_made v + 1 ≤ MOST_TURNS * seats_of v = (let f = mine.few in omega arith) in
      let fits : Fits k.log n k.owner k.drawer id w =
      record {
        seen = prefix_self k.log;
        told = mine.told;
        owned = mine.owned;
        few = few;
        stage = (ap k.drawer (found ∙ sym served) ∙ queued.0, sym found, less, refl);
      } in
      let each' = subst (λ (x : ℕ). (j : ℕ) (u : View E) → get_elem? (set s.views id w) j ≡ some u → Fits k.log (length k.log + x) k.owner k.drawer j u) (sym same)
      (each_set (Fits k.log n k.owner k.drawer) s.views id w (λ j u apart e. k.each j u e) fits) in (
        w,
        takes 0 (Some home.0),
        ap (λ hs. get_elem? hs 0) home.1,
        record {
          log = k.log;
          owner = k.owner;
          drawer = k.drawer;
          words_are = ap (λ ws. set ws 1 (get_or ws 1 0)) k.words_are ∙ ap (λ (x : ℕ). (length k.log + x) ∷ length k.log ∷ []) (sym same);
          made = made';
          seats_are = seats';
          few = k.few;
          numbers = each_set (λ (j : ℕ) (u : View E). All (IsBelow seats) u.accounts) s.views id w (λ j u apart e. k.numbers j u e) (k.numbers id v at);
          by_seats = k.by_seats;
          each = each';
          placed = inr (ap (λ hs. set hs 0 none) home.1, (id, w, set_here s.views id w (below s.views id v at), ap Holds found));
        },
        record { value = home.0; stands_for = home.2; seen = mine.seen; own = all_true k.log n k.owner k.drawer id v mine; holds = ap (λ (c : List (ℕ × Option T)). (w, (0, Some home.0) ∷ c)) empty },
      )

  pub looks : (slots id : ℕ) (me : Hand T E) (t : ℕ) → me.0.stage ≡ Waits t → me.1 ≡ [] → Allows (HasOneHistory stands seats) slots id me 1 (λ n. n) (looked stands (step slots 1 0 0 none) me)
  looks slots id me t waits empty s k wide at small =
      let found : get_or s.words 1 0 ≡ length k.log = ap (λ ws. get_or ws 1 0) k.words_are in
      dite (ℕ_discrete (get_or s.words 1 0) (ticket_of me.0.stage))
      (λ hit.
      let served : t ≡ length k.log = sym (ap ticket_of waits) ∙ (sym hit ∙ found) in
      let it = serves id me t waits empty s k at served in
      (it.0, it.1, it.2, it.3, ((λ _. it.4), (λ not. absurd (not hit)))))
      (λ miss. (me.0, keeps, tt, unmoved s k id 1 me at (omega arith), ((λ hit. absurd (miss hit)), (λ _. refl))))

  -- a seat sees all
  pub learns : (slots id : ℕ) (me : Hand T E) → Allows (HasOneHistory stands seats) slots id me 1 (λ n. n) (learnt (step slots 1 0 0 none) me)
  learns slots id me s k wide at small =
      let n : ℕ = length k.log + total tickets s.views in
      let v = me.0 in
      let w : View E = record v { seen = k.log; told = [] } in
      let same : total tickets (set s.views id w) ≡ total tickets s.views = (let sum = total_set tickets s.views id v w at in omega arith) in
      let made' : total turns_made (set s.views id w) ≡ length k.log = (let m = total_set turns_made s.views id v w at in let m' = k.made in omega arith) in
      let seats' : total seats_of (set s.views id w) ≡ seats = (let m = total_set seats_of s.views id v w at in let m' = k.seats_are in omega arith) in
      let mine = k.each id v at in
      let fits : Fits k.log n k.owner k.drawer id w =
      record { seen = prefix_self k.log; told = prefix_nil k.log; owned = mine.owned; few = mine.few; stage = all_seen k.log n k.drawer id v.seen v.stage mine.stage } in
      let each' = subst (λ (x : ℕ). (j : ℕ) (u : View E) → get_elem? (set s.views id w) j ≡ some u → Fits k.log (length k.log + x) k.owner k.drawer j u) (sym same)
      (each_set (Fits k.log n k.owner k.drawer) s.views id w (λ j u apart e. k.each j u e) fits) in (
        w,
        keeps,
        tt,
        record {
          log = k.log;
          owner = k.owner;
          drawer = k.drawer;
          words_are = ap (λ ws. set ws 1 (get_or ws 1 0)) k.words_are ∙ ap (λ (x : ℕ). (length k.log + x) ∷ length k.log ∷ []) (sym same);
          made = made';
          seats_are = seats';
          few = k.few;
          numbers = each_set (λ (j : ℕ) (u : View E). All (IsBelow seats) u.accounts) s.views id w (λ j u apart e. k.numbers j u e) (k.numbers id v at);
          by_seats = k.by_seats;
          each = each';
          placed = placed_same stands k.log s.homes s.views id v w at refl k.placed;
        },
        record { seen = mine.seen; told = mine.told; own = all_true k.log n k.owner k.drawer id v mine; else_same = refl },
      )
    where
      all_seen : (log : List (Turn E)) (n : ℕ) (drawer : ℕ → ℕ) (id : ℕ) (seen : List (Turn E)) (g : Stage) → InStage log n drawer id seen g → InStage log n drawer id log g
      all_seen log n drawer id seen Idle h = tt
      all_seen log n drawer id seen (Waits t) h = h
      all_seen log n drawer id seen (Holds t) h = (h.0, h.1, h.2, refl)
