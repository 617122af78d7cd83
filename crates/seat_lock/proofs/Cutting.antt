-- Seats are cut off and joined.
use Rattle.seat_lock.proofs.Below.{ℕ, zero, suc, List, [], length, set, get_or, Option, refl, sym, ap, ◌∙◌, subst, inl, inr, arith, length-append, All, All-weaker, All-head, All-tail, All-cons, All-nil, All-append, Splits, Joins, set_else, set_again, at_longer, Turn, MOST_TURNS, Account, View, Idle, Holds, IsBelow, total, account, blank_from, tickets, ticket_count, turns_made, seats_of, Agrees, Fits, IsPlaced, HasOneHistory, first_of, others_of, with_first, without_first, copied, joined, spent}
use Rattle.std.proofs.Common.{◌≡◌, ◌≢◌, ◌+◌, ◌*◌, ◌<◌, ◌≤◌, ◌∷◌, ◌++◌}
use mathlib.Core.Option.{some, none, some-ne-none, some-injective}
use mathlib.Core.Option as maybe
use lib.ListN.{get_elem?}
use Rattle.seat_lock.proofs.Totals.{total_set, total_append, total_snoc, each_set, at_end}
use Rattle.seat_lock.proofs.Placing.{placed_set, placed_same}
use Rattle.seat_lock.proofs.Histories.{prefix_nil}
use Rattle.seat_lock.proofs.Functions.{changed, changed_here, changed_else, moved, moved_there, moved_else}

pub blanks_made : (E : Type 0) (k n : ℕ) → total (λ (a : Account E). length a.made) (blank_from k n) ≡ 0
blanks_made E k zero = refl
blanks_made E k (suc n) = let r = blanks_made E (suc k) n in omega arith

pub blanks_long : (E : Type 0) (k n : ℕ) → length (blank_from {E = E} k n) ≡ n
blanks_long E k zero = refl
blanks_long E k (suc n) = ap suc (blanks_long E (suc k) n)

-- and below the last
pub blanks_below : (E : Type 0) (k n m : ℕ) → k + n ≤ m → All (IsBelow {E = E} m) (blank_from k n)
blanks_below E k zero m le = All-nil (IsBelow {E = E} m)
blanks_below E k (suc n) m le = All-cons (IsBelow {E = E} m) (account k []) (blank_from (suc k) n) (omega arith) (blanks_below E (suc k) n m (omega arith))

-- the numbers of blank accounts are no less than the first
pub blanks_from : (E : Type 0) (k m n : ℕ) → m < k → All (λ (a : Account E). m < a.number) (blank_from k n)
blanks_from E k m zero lt = All-nil (λ (a : Account E). m < a.number)
blanks_from E k m (suc n) lt = All-cons (λ (a : Account E). m < a.number) (account k []) (blank_from (suc k) n) lt (blanks_from E (suc k) m n (omega arith))

module _ {T E : Type 0} (stands : T → List (Turn E) → Type 0) (log : List (Turn E)) (homes : List (maybe.Option (Option T))) where
  placed_more : (views : List (View E)) (w : View E) → ((t : ℕ) → ¬ (w.stage ≡ Holds t)) → IsPlaced stands log homes views → IsPlaced stands log homes (views ++ w ∷ [])
  placed_more views w not p =
      elim p [
        | inl h ↦ inl (
          h.0,
          h.1,
          h.2,
          λ j u e. elim (at_end views w u j e) [ inl g ↦ h.3 j u g.1 | inr g ↦ subst (λ (y : View E). (t : ℕ) → ¬ (y.stage ≡ Holds t)) g.1 not ],
        )
        | inr h ↦ inr (h.0, (h.1.0, h.1.1, at_longer views (w ∷ []) h.1.0 h.1.1 h.1.2, h.1.3))
      ]

module _ {T E : Type 0} (stands : T → List (Turn E) → Type 0) (seats : ℕ) where
  -- a copy that makes no turn
  pub copies : (id : ℕ) (v : View E) → Splits (HasOneHistory stands seats) id v v (copied v)
  copies id v s k at =
      let w = copied v in
      let n : ℕ = length k.log + total tickets s.views in
      let mine = k.each id v at in
      let t0 = total_snoc tickets s.views w in
      let m0 = total_snoc turns_made s.views w in
      let s0 = total_snoc seats_of s.views w in
      let same : total tickets s.views ≡ total tickets (s.views ++ w ∷ []) = omega arith in
      let fits : (j : ℕ) → Fits k.log n k.owner k.drawer j w =
      λ j. record { seen = mine.seen; told = prefix_nil k.log; owned = All-nil (λ (a : Account E). (k.owner a.number ≡ j) × Agrees k.log a); few = (let z : 0 + 0 ≤ MOST_TURNS * 0 = omega arith in z); stage = tt } in
      let each' : (j : ℕ) (u : View E) → get_elem? (s.views ++ w ∷ []) j ≡ some u → Fits k.log n k.owner k.drawer j u =
      λ j u e. elim (at_end s.views w u j e) [ inl g ↦ k.each j u g.1 | inr g ↦ subst (λ (y : View E). Fits k.log n k.owner k.drawer j y) g.1 (fits j) ] in
      let kept : HasOneHistory stands seats (record { words = s.words; homes = s.homes; views = s.views ++ w ∷ [] }) =
      record {
        log = k.log;
        owner = k.owner;
        drawer = k.drawer;
        words_are = k.words_are ∙ ap (λ (x : ℕ). (length k.log + x) ∷ length k.log ∷ []) same;
        made = (let m = k.made in omega arith);
        seats_are = (let m = k.seats_are in omega arith);
        few = k.few;
        numbers = λ j u e. elim (at_end s.views w u j e) [ inl g ↦ k.numbers j u g.1 | inr g ↦ subst (λ (y : View E). All (IsBelow seats) y.accounts) g.1 (All-nil (IsBelow seats)) ];
        by_seats = k.by_seats;
        each = subst (λ (x : ℕ). (j : ℕ) (u : View E) → get_elem? (s.views ++ w ∷ []) j ≡ some u → Fits k.log (length k.log + x) k.owner k.drawer j u) same each';
        placed = placed_more stands k.log s.homes s.views w (λ t e. absurd cc) k.placed;
      } in
      subst (λ (l : List (View E)). HasOneHistory stands seats (record { words = s.words; homes = s.homes; views = l ++ w ∷ [] })) (sym (set_again s.views id v at)) kept

  -- the first account of a seat that has only blank ones goes to a new seat
  pub cuts : (id : ℕ) (v : View E) (number n : ℕ) → v.stage ≡ Idle → v.accounts ≡ blank_from number (suc n) → Splits (HasOneHistory stands seats) id v (without_first v) (with_first v)
  cuts id v number n idle is s k at =
      let left = without_first v in
      let right = with_first v in
      let rows : List (Account E) = blank_from (suc number) n in
      let left_is : others_of v.accounts ≡ rows = ap others_of is in
      let right_is : first_of v.accounts ≡ account number [] ∷ [] = ap first_of is in
      let new : ℕ = length (set s.views id left) in
      let owner' = changed k.owner number new in
      let count : ℕ = length k.log + total tickets s.views in
      let mine = k.each id v at in
      let none_yet : tickets v ≡ 0 = ap ticket_count idle in
      let made_v : turns_made v ≡ 0 = ap (total (λ (a : Account E). length a.made)) is ∙ blanks_made E number (suc n) in
      let made_l : turns_made left ≡ 0 = ap (total (λ (a : Account E). length a.made)) left_is ∙ blanks_made E (suc number) n in
      let made_r : turns_made right ≡ 0 = ap (total (λ (a : Account E). length a.made)) right_is in
      let long_v : seats_of v ≡ n + 1 = (let e : seats_of v ≡ suc n = ap length is ∙ blanks_long E number (suc n) in omega arith) in
      let long_l : seats_of left ≡ n = ap length left_is ∙ blanks_long E (suc number) n in
      let long_r : seats_of right ≡ 1 = ap length right_is in
      let views' : List (View E) = set s.views id left ++ right ∷ [] in
      let t0 = total_set tickets s.views id v left at in
      let t1 = total_snoc tickets (set s.views id left) right in
      let m0 = total_set turns_made s.views id v left at in
      let m1 = total_snoc turns_made (set s.views id left) right in
      let s0 = total_set seats_of s.views id v left at in
      let s1 = total_snoc seats_of (set s.views id left) right in
      let same : total tickets s.views ≡ total tickets views' = omega arith in
      let own : All (λ (a : Account E). (k.owner a.number ≡ id) × Agrees k.log a) (account number [] ∷ rows) = subst (All (λ (a : Account E). (k.owner a.number ≡ id) × Agrees k.log a)) is mine.owned in
      let head = All-head (λ (a : Account E). (k.owner a.number ≡ id) × Agrees k.log a) (account number []) rows own in
      let tail = All-tail (λ (a : Account E). (k.owner a.number ≡ id) × Agrees k.log a) (account number []) rows own in
      let above = blanks_from E (suc number) number n (omega arith) in
      let low : All (IsBelow {E = E} seats) (account number [] ∷ rows) = subst (All (IsBelow {E = E} seats)) is (k.numbers id v at) in
      let low_l : All (IsBelow {E = E} seats) (others_of v.accounts) = subst (All (IsBelow {E = E} seats)) (sym left_is) (All-tail (IsBelow seats) (account number []) rows low) in
      let low_r : All (IsBelow {E = E} seats) (first_of v.accounts) =
      subst (All (IsBelow {E = E} seats)) (sym right_is) (All-cons (IsBelow seats) (account number []) [] (All-head (IsBelow seats) (account number []) rows low) (All-nil (IsBelow seats))) in
      let kept_rows : All (λ (a : Account E). (owner' a.number ≡ id) × Agrees k.log a) rows =
      λ i d lt. (changed_else k.owner number new (get_or rows i d).number (λ e. (let more : number < (get_or rows i d).number = above i d lt in omega arith)) ∙ (tail i d lt).0, (tail i d lt).1) in
      let fits_l : Fits k.log count owner' k.drawer id left =
      record {
        seen = mine.seen;
        told = mine.told;
        owned = subst (All (λ (a : Account E). (owner' a.number ≡ id) × Agrees k.log a)) (sym left_is) kept_rows;
        few = (let f = mine.few in let z : turns_made left + tickets v ≤ MOST_TURNS * seats_of left = omega arith in z);
        stage = mine.stage;
      } in
      let fits_r : Fits k.log count owner' k.drawer new right =
      record {
        seen = mine.seen;
        told = prefix_nil k.log;
        owned = subst (All (λ (a : Account E). (owner' a.number ≡ new) × Agrees k.log a)) (sym right_is)
            (All-cons (λ (a : Account E). (owner' a.number ≡ new) × Agrees k.log a) (account number []) [] (changed_here k.owner number new number refl, head.1) (All-nil (λ (a : Account E). (owner' a.number ≡ new) × Agrees k.log a)));
        few = (let z : turns_made right + 0 ≤ MOST_TURNS * seats_of right = omega arith in z);
        stage = tt;
      } in
      let others : (j : ℕ) (u : View E) → j ≢ id → get_elem? s.views j ≡ some u → Fits k.log count owner' k.drawer j u =
      λ j u apart e. let f = k.each j u e in record {
        seen = f.seen;
        told = f.told;
        owned = All-weaker (λ (a : Account E). (k.owner a.number ≡ j) × Agrees k.log a) (λ (a : Account E). (owner' a.number ≡ j) × Agrees k.log a)
            (λ a h. (changed_else k.owner number new a.number (λ e'. apart (sym h.0 ∙ (ap k.owner e' ∙ head.0))) ∙ h.0, h.1)) u.accounts f.owned;
        few = f.few;
        stage = f.stage;
      } in
      let each' : (j : ℕ) (u : View E) → get_elem? views' j ≡ some u → Fits k.log count owner' k.drawer j u =
      λ j u e. elim (at_end (set s.views id left) right u j e) [
        | inl g ↦ each_set (Fits k.log count owner' k.drawer) s.views id left others fits_l j u g.1
        | inr g ↦ subst (λ (y : ℕ × View E). Fits k.log count owner' k.drawer y.0 y.1) (λ i. (sym g.0 i, g.1 i)) fits_r
      ] in
      record {
        log = k.log;
        owner = owner';
        drawer = k.drawer;
        words_are = k.words_are ∙ ap (λ (x : ℕ). (length k.log + x) ∷ length k.log ∷ []) same;
        made = (let m = k.made in omega arith);
        seats_are = (let m = k.seats_are in omega arith);
        few = k.few;
        numbers = λ j u e. elim (at_end (set s.views id left) right u j e) [
          | inl g ↦ each_set (λ (j : ℕ) (u : View E). All (IsBelow seats) u.accounts) s.views id left (λ j u apart e. k.numbers j u e) low_l j u g.1
          | inr g ↦ subst (λ (y : View E). All (IsBelow seats) y.accounts) g.1 low_r
        ];
        by_seats = k.by_seats;
        each = subst (λ (x : ℕ). (j : ℕ) (u : View E) → get_elem? views' j ≡ some u → Fits k.log (length k.log + x) owner' k.drawer j u) same each';
        placed = placed_more stands k.log s.homes (set s.views id left) right (λ t e. absurd cc) (placed_same stands k.log s.homes s.views id v left at refl k.placed);
      }

  -- a seat takes in an idle one
  pub merges : (id : ℕ) (v : View E) (other : ℕ) (w : View E) → w.stage ≡ Idle → Joins (HasOneHistory stands seats) id v other w (joined v w) spent
  merges id v other w idle s k at apart there =
      let both = joined v w in
      let l : List (View E) = set s.views id both in
      let at' : get_elem? s.views other ≡ some w = sym (set_else s.views id other both apart) ∙ there in
      let mine = k.each id v at in
      let theirs = k.each other w at' in
      let owner' = moved k.owner other id in
      let count : ℕ = length k.log + total tickets s.views in
      let none_yet : tickets w ≡ 0 = ap ticket_count idle in
      let t0 = total_set tickets s.views id v both at in
      let t1 = total_set tickets l other w spent there in
      let m0 = total_set turns_made s.views id v both at in
      let m1 = total_set turns_made l other w spent there in
      let s0 = total_set seats_of s.views id v both at in
      let s1 = total_set seats_of l other w spent there in
      let made_b : turns_made both ≡ turns_made w + turns_made v = total_append (λ (a : Account E). length a.made) w.accounts v.accounts in
      let long_b : seats_of both ≡ seats_of w + seats_of v = length-append w.accounts v.accounts in
      let same : total tickets s.views ≡ total tickets (set l other spent) = omega arith in
      let mine_in : All (λ (a : Account E). (owner' a.number ≡ id) × Agrees k.log a) v.accounts =
      All-weaker (λ (a : Account E). (k.owner a.number ≡ id) × Agrees k.log a) (λ (a : Account E). (owner' a.number ≡ id) × Agrees k.log a)
      (λ a h. (moved_else k.owner other id a.number (λ e. apart (sym e ∙ h.0)) ∙ h.0, h.1)) v.accounts mine.owned in
      let theirs_in : All (λ (a : Account E). (owner' a.number ≡ id) × Agrees k.log a) w.accounts =
      All-weaker (λ (a : Account E). (k.owner a.number ≡ other) × Agrees k.log a) (λ (a : Account E). (owner' a.number ≡ id) × Agrees k.log a)
      (λ a h. (moved_there k.owner other id a.number h.0, h.1)) w.accounts theirs.owned in
      let fits_b : Fits k.log count owner' k.drawer id both =
      record {
        seen = mine.seen;
        told = theirs.seen;
        owned = All-append (λ (a : Account E). (owner' a.number ≡ id) × Agrees k.log a) w.accounts v.accounts theirs_in mine_in;
        few = (let f = mine.few in let f' = theirs.few in let z : turns_made both + tickets v ≤ MOST_TURNS * seats_of both = omega arith in z);
        stage = mine.stage;
      } in
      let fits_s : Fits k.log count owner' k.drawer other spent =
      record {
        seen = prefix_nil k.log;
        told = prefix_nil k.log;
        owned = All-nil (λ (a : Account E). (owner' a.number ≡ other) × Agrees k.log a);
        few = (let z : 0 + 0 ≤ MOST_TURNS * 0 = omega arith in z);
        stage = tt;
      } in
      let others : (j : ℕ) (u : View E) → j ≢ id → get_elem? s.views j ≡ some u → j ≢ other → Fits k.log count owner' k.drawer j u =
      λ j u _ e apart'. let f = k.each j u e in record {
        seen = f.seen;
        told = f.told;
        owned = All-weaker (λ (a : Account E). (k.owner a.number ≡ j) × Agrees k.log a) (λ (a : Account E). (owner' a.number ≡ j) × Agrees k.log a)
            (λ a h. (moved_else k.owner other id a.number (λ e'. apart' (sym h.0 ∙ e')) ∙ h.0, h.1)) u.accounts f.owned;
        few = f.few;
        stage = f.stage;
      } in
      let each' : (j : ℕ) (u : View E) → get_elem? (set l other spent) j ≡ some u → Fits k.log count owner' k.drawer j u =
      each_set (Fits k.log count owner' k.drawer) l other spent
      (λ j u apart' e. each_set (λ (j : ℕ) (u : View E). j ≢ other → Fits k.log count owner' k.drawer j u) s.views id both (λ j u a e. others j u a e) (λ _. fits_b) j u e apart') fits_s in
      record {
        log = k.log;
        owner = owner';
        drawer = k.drawer;
        words_are = k.words_are ∙ ap (λ (x : ℕ). (length k.log + x) ∷ length k.log ∷ []) same;
        made = (let m = k.made in omega arith);
        seats_are = (let m = k.seats_are in omega arith);
        few = k.few;
        numbers = each_set (λ (j : ℕ) (u : View E). All (IsBelow seats) u.accounts) l other spent
            (λ j u apart' e. each_set (λ (j : ℕ) (u : View E). All (IsBelow seats) u.accounts) s.views id both (λ j u a e. k.numbers j u e)
            (All-append (IsBelow seats) w.accounts v.accounts (k.numbers other w at') (k.numbers id v at)) j u e) (All-nil (IsBelow seats));
        by_seats = k.by_seats;
        each = subst (λ (x : ℕ). (j : ℕ) (u : View E) → get_elem? (set l other spent) j ≡ some u → Fits k.log (length k.log + x) owner' k.drawer j u) same each';
        placed = placed_set stands k.log s.homes l other w spent there (λ t e. absurd (cc (idle, e))) (λ t e. absurd cc) (placed_same stands k.log s.homes s.views id v both at refl k.placed);
      }
