-- Lists of seats.
use Rattle.seat_lock.proofs.Below.{ℕ, zero, suc, List, [], map, length, Option, Some, None, true, refl, sym, ap, ◌∙◌, subst, append_assoc, arith, slice_get, option_to_list, MatchOption, IfSome, is_some, All, sum_by, All-head, All-tail, All-cons, All-nil, All-pop, sum_by-cons, get_or_from_slice_get, TableId, Final, Seen, Turn, Account, ByBelow, total, account, Agrees, HasOneHistory, Hand, Place, IsIdle, Learnt, Known, IsFree, fresh_seat, turns_by, IsWhole, account_of, Gathered}
use Rattle.std.proofs.Common.{◌≡◌, ◌+◌, ◌<◌, ◌∷◌, ◌++◌}
use mathlib.Core.List.{IsPrefix}
use mathlib.Core.Logic.{dite}
use native.Mathlib.Decide.{ℕ_discrete}
use Rattle.seat_lock.proofs.Histories.{prefix_self, prefix_trans}
use Rattle.seat_lock.proofs.Ends.{Shows, closes}

module _ {A : Type 0} where
  get_before : (xs ys : List A) (k : ℕ) → k < length xs → slice_get (xs ++ ys) k ≡ slice_get xs k
  get_before [] ys k lt = absurd (omega arith)
  get_before (x ∷ xs) ys zero lt = refl
  get_before (x ∷ xs) ys (suc k) lt = get_before xs ys k (omega arith)

  get_last : (xs : List A) (y : A) → slice_get (xs ++ y ∷ []) (length xs) ≡ Some y
  get_last [] y = refl
  get_last (x ∷ xs) y = get_last xs y

  -- one more in a row
  pub dealt_more : (f : ℕ → A) (xs : List A) (n : ℕ) (y : A) → length xs ≡ n → ((k : ℕ) → k < n → slice_get xs k ≡ Some (f k)) → y ≡ f n → (k : ℕ) → k < n + 1 → slice_get (xs ++ y ∷ []) k ≡ Some (f k)
  dealt_more f xs n y long before is k lt =
      dite (ℕ_discrete k n)
      (λ e. let at : k ≡ length xs = e ∙ sym long in ap (slice_get (xs ++ y ∷ [])) at ∙ (get_last xs y ∙ ap Some (is ∙ ap f (sym e))))
      (λ ne. let small : k < n = omega arith in get_before xs (y ∷ []) k (omega arith) ∙ before k small)

module _ {E : Type 0} where
  -- the turns under each seat's number are its own
  owned : (log : List (Turn E)) (seats : List (Known E)) → All (Agrees log) (map account_of seats) → All (λ (s : Known E). turns_by s.number log ≡ s.made) seats
  owned log [] h = All-nil (λ (s : Known E). turns_by s.number log ≡ s.made)
  owned log (s ∷ rows) h =
      All-cons (λ (s : Known E). turns_by s.number log ≡ s.made) s rows (All-head (Agrees log) (account_of s) (map account_of rows) h) (owned log rows (All-tail (Agrees log) (account_of s) (map account_of rows) h))

  accounts_made : (seats : List (Known E)) → total (λ (a : Account E). length a.made) (map account_of seats) ≡ sum_by (λ (s : Known E). length s.made) seats
  accounts_made [] = refl
  accounts_made (s ∷ rows) = ap (λ (n : ℕ). length s.made + n) (accounts_made rows) ∙ sym (sum_by-cons (λ (s : Known E). length s.made) s rows)

  accounts_long : (seats : List (Known E)) → length (map account_of seats) ≡ length seats
  accounts_long [] = refl
  accounts_long (s ∷ rows) = ap suc (accounts_long rows)

  later : (seen seen' : List (Turn E)) (seats : List (Known E)) → IsPrefix seen seen' → All (λ (s : Known E). IsPrefix s.seen seen) seats → All (λ (s : Known E). IsPrefix s.seen seen') seats
  later seen seen' [] p h = All-nil (λ (s : Known E). IsPrefix s.seen seen')
  later seen seen' (s ∷ rows) p h =
      All-cons (λ (s : Known E). IsPrefix s.seen seen') s rows (prefix_trans s.seen seen seen' (All-head (λ (s : Known E). IsPrefix s.seen seen) s rows h) p)
      (later seen seen' rows p (All-tail (λ (s : Known E). IsPrefix s.seen seen) s rows h))

-- new seats are free
pub free_row : {E : Type 0} (id : TableId) (xs : List (Known E)) (n : ℕ) → length xs ≡ n → ((k : ℕ) → k < n → slice_get xs k ≡ Some (fresh_seat id k)) → All (IsFree id) xs
free_row id xs n long each i d lt = subst (IsFree id) (sym (get_or_from_slice_get xs i (fresh_seat id i) d (each i (omega arith)))) (refl, refl)

module _ {T E : Type 0} where
  -- one seat is gathered
  pub gathered_one : (z : TableId) (p : Place T E) (s : Known E) → p.table_id ≡ z → IsIdle p → p.me.0.accounts ≡ account s.number s.made ∷ [] → p.me.0.seen ≡ s.seen → Gathered z (s ∷ []) p
  gathered_one z p s here idle rows seen = record {
    at = here;
    idle = idle;
    accounts = rows;
    seen = All-cons (λ (s : Known E). IsPrefix s.seen p.me.0.seen) s [] (subst (λ (l : List (Turn E)). IsPrefix s.seen l) (sym seen) (prefix_self s.seen)) (All-nil (λ (s : Known E). IsPrefix s.seen p.me.0.seen));
  }

  -- and one more
  pub gathered_more : (z : TableId) (p o q : Place T E) (s : Known E) (seats : List (Known E)) → Gathered z seats p → o.me.0.accounts ≡ account s.number s.made ∷ [] → o.me.0.seen ≡ s.seen → Learnt p o q → Gathered z (s ∷ seats) q
  gathered_more z p o q s seats g rows seen learnt =
      let is = learnt.has in
      record {
        at = learnt.at ∙ g.at;
        idle = (ap (λ (m : Hand T E). m.0.stage) is ∙ g.idle.0, ap (λ (m : Hand T E). m.1) is ∙ g.idle.1);
        accounts = ap (λ (m : Hand T E). m.0.accounts) is ∙ (λ i. rows i ++ g.accounts i);
        seen = All-cons (λ (s : Known E). IsPrefix s.seen q.me.0.seen) s seats (subst (λ (l : List (Turn E)). IsPrefix l q.me.0.seen) seen learnt.told) (later p.me.0.seen q.me.0.seen seats learnt.seen g.seen);
      }

  -- the last seat shows the whole history
  pub ends : (stands : T → List (Turn E) → Type 0) (z : TableId) (all : ℕ) (p : Place T E) (seats : List (Known E)) (words : List ℕ) (slots : List (Option T)) → Gathered z seats p → length seats ≡ all
      → Final (Seen (HasOneHistory stands all) p.id p.me.0) words slots → Shows stands all p.me.0 slots
  ends stands z all p seats words slots g long final = closes stands all p.id p.me.0 words slots g.idle.0 (ap length g.accounts ∙ (accounts_long seats ∙ long)) final

  pub whole : (stands : T → List (Turn E) → Type 0) (z : TableId) (all : ℕ) (p : Place T E) (seats : List (Known E)) (slots : List (Option T)) → Gathered z seats p → (shown : Shows stands all p.me.0 slots) → (value : T) → value ≡ shown.0 → (count : ℕ) → all ≡ count
      → (log : List (Turn E)) × stands value log × IsWhole count seats log
  whole stands z all p seats slots g shown value is count counts =
      let log = shown.2.0 in (
        log,
        subst (λ (x : T). stands x log) (sym is) shown.2.1,
        record {
          seen = later p.me.0.seen log seats shown.2.2 g.seen;
          own = owned log seats (subst (All (Agrees log)) g.accounts shown.2.3);
          by_seats = subst (λ (n : ℕ). All (ByBelow n) log) counts shown.2.5;
          count = sym (accounts_made seats) ∙ (ap (total (λ (a : Account E). length a.made)) (sym g.accounts) ∙ shown.2.4);
        },
      )

module _ {E : Type 0} where
  -- the last of a list was taken
  pub popped : (z : TableId) (items rest : List (Known E)) (r : Option (Known E)) (s : Known E) → items ≡ rest ++ option_to_list r → r ≡ Some s → All (IsFree z) items → (items ≡ rest ++ s ∷ []) × All (IsFree z) rest × IsFree z s
  popped z items rest r s e is free =
      let both = All-pop (IsFree z) items rest r e free in
      (e ∙ ap (λ (o : Option (Known E)). rest ++ option_to_list o) is, both.0, subst (λ (o : Option (Known E)). IfSome o (IsFree z)) is both.1)

  pub moved_over : (all items rest done : List (Known E)) (s : Known E) → all ≡ items ++ done → items ≡ rest ++ s ∷ [] → all ≡ rest ++ (s ∷ done)
  moved_over all items rest done s e e' = e ∙ (ap (λ (l : List (Known E)). l ++ done) e' ∙ append_assoc rest (s ∷ []) done)

module _ {X : Type 0} where
  pub none_left : (r : Option X) (P : Type 0) (Q : X → Type 0) → ((x : X) → ¬ (r ≡ Some x)) → MatchOption r P Q → P
  none_left None P Q not m = m
  none_left (Some x) P Q not m = absurd (not x refl)

  pub nil_of : (xs : List X) → length xs ≡ 0 → xs ≡ []
  nil_of [] e = refl
  nil_of (x ∷ xs) e = absurd (omega arith)

  pub some_of : (r : Option X) (x : X) → r ≡ Some x → is_some r ≡ true
  some_of r x e = ap is_some e
