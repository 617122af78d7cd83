-- What a seat comes to by a turn.
use Rattle.seat_lock.proofs.Below.{ℕ, zero, suc, true, false, List, [], length, None, refl, sym, ap, ap₂, ◌∙◌, subst, arith, length-append, All, All-head, rest, Turn, MOST_TURNS, Account, Stage, Idle, Waits, Holds, Inside, turns_by, total, account, ticket_count, turns_made, seats_of, Agrees, blank_view, account_with, with_first, without_first, Hand, made_of, is_held, Held, Place, IsIdle, MayDraw, Taken, Left, Learnt, Known, IsFree, fresh_seat, with_turn, TableId, known, IsOwn}
use Rattle.std.proofs.Common.{◌≡◌, ◌+◌, ◌<◌, ◌≤◌, ◌∷◌, ◌++◌}
use mathlib.Core.List.{IsPrefix}
use Rattle.seat_lock.proofs.Histories.{own_turn}

pub one_slot : {S : Type 0} (l : List (ℕ × S)) (y : S) → l ≡ (0, y) ∷ [] → l ≡ (0, y) ∷ rest l
one_slot l y e = e ∙ ap (λ s. (0, y) ∷ s) (sym (ap rest e))

module _ {T E : Type 0} where
  -- a seat that is no held one is idle
  pub idle_place : (p : Place T E) → is_held p.me.0.stage ≡ false → Held p.me.1 p.me.0.stage → IsIdle p
  idle_place p free held = cases p.me.0.stage refl free held
    where
      cases : (g : Stage) → p.me.0.stage ≡ g → is_held g ≡ false → Held p.me.1 g → IsIdle p
      cases Idle e free held = (e, held)
      cases (Waits t) e free held = absurd held
      cases (Holds t) e free held = absurd cc

  pub held_place : (p : Place T E) → is_held p.me.0.stage ≡ true → Held p.me.1 p.me.0.stage → ((t : ℕ) × (p.me.0.stage ≡ Holds t)) × (p.me.1 ≡ (0, None) ∷ [])
  held_place p is held = cases p.me.0.stage refl is held
    where
      cases : (g : Stage) → p.me.0.stage ≡ g → is_held g ≡ true → Held p.me.1 g → ((t : ℕ) × (p.me.0.stage ≡ Holds t)) × (p.me.1 ≡ (0, None) ∷ [])
      cases Idle e is held = absurd cc
      cases (Waits t) e is held = absurd held
      cases (Holds t) e is held = ((t, e), held)

  -- a seat with fewer turns than the most may draw
  pub may_draw : (s : Inside T E) → IsOwn s → length (made_of s.place.me.0.accounts) < MOST_TURNS → MayDraw s.place
  may_draw s own few =
      let long : seats_of s.place.me.0 ≡ 1 = ap length own.account_is in
      let made : turns_made s.place.me.0 ≡ length (made_of s.place.me.0.accounts) + 0 = ap (total (λ (a : Account E). length a.made)) own.account_is in
      omega arith

  -- the turn was taken
  pub took : (stands : T → List (Turn E) → Type 0) (s : Inside T E) (q : Place T E) (x : T) → IsOwn s → s.made < MOST_TURNS → Taken stands s.place q x → IsOwn (record { number = s.number; made = s.made; place = q })
  took stands s q x own few taken =
      let is = taken.holds.1 in
      let rows : q.me.0.accounts ≡ s.place.me.0.accounts = ap (λ (m : Hand T E). m.0.accounts) is in
      let stage : q.me.0.stage ≡ Holds taken.holds.0 = ap (λ (m : Hand T E). m.0.stage) is in
      let one : ticket_count q.me.0.stage ≡ 1 = ap ticket_count stage in
      let made : made_of q.me.0.accounts ≡ made_of s.place.me.0.accounts = ap made_of rows in
      let agrees = All-head (Agrees q.me.0.seen) (account s.number (made_of s.place.me.0.accounts)) [] (subst (All (Agrees q.me.0.seen)) own.account_is taken.own) in
      let room : s.made + ticket_count q.me.0.stage ≤ MOST_TURNS = omega arith in
      record {
        account_is = rows ∙ (own.account_is ∙ ap (λ (m : List (Turn E)). account s.number m ∷ []) (sym made));
        counted = own.counted ∙ ap length (sym made);
        room = room;
        own = agrees ∙ sym made;
        held = subst (Held q.me.1) (sym stage) (ap (λ (m : Hand T E). m.1) is);
      }

  -- the turn was made
  pub made_turn : (turn : Turn E) (s : Inside T E) (q : Place T E) → IsOwn s → turn.by ≡ s.number → is_held s.place.me.0.stage ≡ true → Left turn s.place q → IsOwn (record { number = s.number; made = s.made + 1; place = q })
  made_turn turn s q own by held left =
      let is = left.rests in
      let made : List (Turn E) = made_of s.place.me.0.accounts in
      let rows : q.me.0.accounts ≡ account s.number (made ++ turn ∷ []) ∷ [] = ap (λ (m : Hand T E). m.0.accounts) is ∙ ap (account_with turn) own.account_is in
      let made' : made_of q.me.0.accounts ≡ made ++ turn ∷ [] = ap made_of rows in
      let stage : q.me.0.stage ≡ Idle = ap (λ (m : Hand T E). m.0.stage) is in
      let none : ticket_count q.me.0.stage ≡ 0 = ap ticket_count stage in
      let holds = held_place s.place held own.held in
      let one : ticket_count s.place.me.0.stage ≡ 1 = ap ticket_count holds.0.1 in
      let seen : q.me.0.seen ≡ s.place.me.0.seen ++ turn ∷ [] = ap (λ (m : Hand T E). m.0.seen) is in
      let long : length (made ++ turn ∷ []) ≡ length made + 1 = length-append made (turn ∷ []) in
      let counted : s.made + 1 ≡ length (made ++ turn ∷ []) = (let was = own.counted in omega arith) in
      let room : (s.made + 1) + ticket_count q.me.0.stage ≤ MOST_TURNS = (let had = own.room in omega arith) in
      record {
        account_is = rows ∙ ap (λ (m : List (Turn E)). account s.number m ∷ []) (sym made');
        counted = counted ∙ ap length (sym made');
        room = room;
        own = ap (turns_by s.number) seen ∙ (own_turn s.number s.place.me.0.seen turn by ∙ (ap (λ (m : List (Turn E)). m ++ turn ∷ []) own.own ∙ sym made'));
        held = subst (Held q.me.1) (sym stage) (ap (λ (m : Hand T E). m.1) is);
      }

  pub after_turn : (turn : Turn E) (s : Inside T E) (q : Place T E) (v : Known E) → IsOwn s → known s ≡ v → Left turn s.place q → known (record { number = s.number; made = s.made + 1; place = q }) ≡ with_turn v turn
  after_turn turn s q v own same left =
      let is = left.rests in
      let made : List (Turn E) = made_of s.place.me.0.accounts in
      let made' : made_of q.me.0.accounts ≡ made ++ turn ∷ [] = ap made_of (ap (λ (m : Hand T E). m.0.accounts) is ∙ ap (account_with turn) own.account_is) in
      let stage : is_held q.me.0.stage ≡ false = ap is_held (ap (λ (m : Hand T E). m.0.stage) is) in
      let seen : q.me.0.seen ≡ s.place.me.0.seen ++ turn ∷ [] = ap (λ (m : Hand T E). m.0.seen) is in
      (λ i. record { lock = left.at i; number = s.number; made = made' i; seen = seen i; in_turn = stage i }) ∙ ap (λ (k : Known E). with_turn k turn) same

  pub room_left : (s : Inside T E) (v : Known E) → IsOwn s → known s ≡ v → length v.made < MOST_TURNS → s.made < MOST_TURNS
  room_left s v own same few = let long = ap (λ (k : Known E). length k.made) same in let made = own.counted in omega arith

  pub took_seen : (stands : T → List (Turn E) → Type 0) (s : Inside T E) (q : Place T E) (x : T) (v : Known E) → known s ≡ v → Taken stands s.place q x → IsPrefix v.seen q.me.0.seen
  took_seen stands s q x v same taken = subst (λ (k : Known E). IsPrefix k.seen q.me.0.seen) same taken.seen

  -- the seat saw more
  pub learnt_own : (s : Inside T E) (o q : Place T E) → IsOwn s → o.me.0.accounts ≡ [] → Learnt s.place o q → IsOwn (record { number = s.number; made = s.made; place = q })
  learnt_own s o q own none learnt =
      let is = learnt.has in
      let made : List (Turn E) = made_of s.place.me.0.accounts in
      let all : o.me.0.accounts ++ s.place.me.0.accounts ≡ account s.number made ∷ [] = ap₂ (λ (a b : List (Account E)). a ++ b) none own.account_is in
      let rows : q.me.0.accounts ≡ account s.number made ∷ [] = ap (λ (m : Hand T E). m.0.accounts) is ∙ all in
      let made' : made_of q.me.0.accounts ≡ made = ap made_of rows in
      let stage : q.me.0.stage ≡ s.place.me.0.stage = ap (λ (m : Hand T E). m.0.stage) is in
      let same : ticket_count q.me.0.stage ≡ ticket_count s.place.me.0.stage = ap ticket_count stage in
      let agrees = All-head (Agrees q.me.0.seen) (account s.number made) [] (subst (All (Agrees q.me.0.seen)) all learnt.own) in
      let room : s.made + ticket_count q.me.0.stage ≤ MOST_TURNS = (let had = own.room in omega arith) in
      record {
        account_is = rows ∙ ap (λ (m : List (Turn E)). account s.number m ∷ []) (sym made');
        counted = own.counted ∙ ap length (sym made');
        room = room;
        own = agrees ∙ sym made';
        held = subst (λ (x : Hand T E). Held x.1 x.0.stage) (sym is) own.held;
      }

  -- a new seat
  pub fresh_own : (number : ℕ) (p : Place T E) → p.me ≡ (blank_view number (suc zero), []) → IsOwn (record { number = number; made = 0; place = p })
  fresh_own number p is =
      let made : made_of p.me.0.accounts ≡ [] = ap (λ (m : Hand T E). made_of m.0.accounts) is in
      let rests : ticket_count p.me.0.stage ≡ 0 = ap (λ (m : Hand T E). ticket_count m.0.stage) is in
      let room : 0 + ticket_count p.me.0.stage ≤ MOST_TURNS = omega arith in
      record {
        account_is = ap (λ (m : Hand T E). m.0.accounts) is ∙ ap (λ (m : List (Turn E)). account number m ∷ []) (sym made);
        counted = ap length (sym made);
        room = room;
        own = ap (λ (m : Hand T E). turns_by number m.0.seen) is ∙ sym made;
        held = subst (λ (m : Hand T E). Held m.1 m.0.stage) (sym is) refl;
      }

  pub fresh_known : (id : TableId) (number : ℕ) (p : Place T E) → p.table_id ≡ id → p.me ≡ (blank_view number (suc zero), []) → known (record { number = number; made = 0; place = p }) ≡ fresh_seat id number
  fresh_known id number p here is = λ i. record { lock = here i; number = number; made = made_of (is i).0.accounts; seen = (is i).0.seen; in_turn = is_held (is i).0.stage }

  pub left_over : (k n : ℕ) (m m' : Hand T E) → m ≡ (blank_view k (suc n), []) → m' ≡ (without_first m.0, m.1) → m' ≡ (blank_view (suc k) n, [])
  left_over k n m m' is is' = is' ∙ ap (λ (m : Hand T E). (without_first m.0, m.1)) is

  pub cut_off : (k n : ℕ) (m m' : Hand T E) → m ≡ (blank_view k (suc n), []) → m' ≡ (with_first m.0, []) → m' ≡ (blank_view k (suc zero), [])
  cut_off k n m m' is is' =
      let f : Hand T E → Hand T E = λ m. (with_first m.0, []) in
      is' ∙ ap f is

  -- a free seat as a place of the table
  pub free_place : (s : Inside T E) (v : Known E) (z : TableId) → IsOwn s → known s ≡ v → IsFree z v
      → (s.place.table_id ≡ z) × IsIdle s.place × (s.place.me.0.accounts ≡ account v.number v.made ∷ []) × (s.place.me.0.seen ≡ v.seen)
  free_place s v z own same free = (
    ap (λ (k : Known E). k.lock) same ∙ free.0,
    idle_place s.place (ap (λ (k : Known E). k.in_turn) same ∙ free.1) own.held,
    own.account_is ∙ ap (λ (k : Known E). account k.number k.made ∷ []) same,
    ap (λ (k : Known E). k.seen) same,
  )
