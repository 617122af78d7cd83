-- Seats that begin, that meet the first, and that did what they were to do.
use Rattle.shared_vm.proofs.Below.{ℕ, zero, suc, false, List, [], length, get_or, map, take, drop, inl, inr, refl, sym, ap, ap₂, ◌∙◌, subst, arith, min, vec_len, slice_get, zip, Vec, All, with_items, Global, cases_lt, append-nil, get_or_append_left, get_or_push, length_push, get_or-map, length-map, map_push, with_items_is, All-head, All-same, All-rest, filter-append, get_or_from_slice_get, length-zip, get_or-zip, Command, Tree, Turn, MOST_TURNS, turns_by, TableId, Known, IsFree, IsSameSeat, fresh_seat, trees_in, Entry, MayPerform, Stays, IsTurnOf, commands_in, Performed, Worker, Each, IsReady, AllReady, Worked, Did, AllDid, session_trees}
use Rattle.std.proofs.Common.{◌≡◌, ◌+◌, ◌==◌, ◌<◌, ◌≤◌, ◌∷◌, ◌++◌}
use Rattle.std.specs.Prelude.{Some}
use mathlib.Core.List.{IsPrefix}
use Rattle.shared_vm.proofs.SharedRun.Entries.{front_nil}
use Rattle.shared_vm.proofs.SharedRun.Mixes.{prefix_trans}

-- an element more, and the first one less
pub each_push : {X : Type 0} (P : ℕ → X → Type 0) (xs : List X) (y : X) → Each P xs → P (length xs) y → Each P (xs ++ y ∷ [])
each_push P xs y all last = λ k d less. elim (cases_lt k (length xs)) [
  | inl before ↦ subst (P k) (sym (get_or_append_left xs (y ∷ []) d k before)) (all k d before)
  | inr past ↦
      let at : k ≡ length xs = omega (arith, length_push xs y) in
      subst (P k) (sym (get_or_push xs y d k (sym at))) (subst (λ (m : ℕ). P m y) (sym at) last)
]

pub first_taken : {X : Type 0} (xs rest : List X) (x : X) → 0 < length xs → x ≡ get_or xs 0 x → rest ≡ take 0 xs ++ drop (0 + 1) xs → xs ≡ x ∷ rest
first_taken [] rest x some is left = let no : ⊥ = omega (arith, some) in absurd no
first_taken (y ∷ ys) rest x some is left = ap₂ ◌∷◌ (sym is) (sym left)

-- seats of a new machine
pub fresh_at : (id : TableId) (n : ℕ) (seats : List (Known Entry)) → length seats ≡ n → ((k : ℕ) → k < n → slice_get seats k ≡ Some (fresh_seat id k)) → Each (λ k s. s ≡ fresh_seat id k) seats
fresh_at id n seats len each = λ k d less. get_or_from_slice_get seats k (fresh_seat id k) d (each k (omega arith))

pub later_fresh : (id : TableId) (seats later : List (Known Entry)) (first : Known Entry) → seats ≡ first ∷ later → Each (λ k s. s ≡ fresh_seat id k) seats → Each (λ k s. s ≡ fresh_seat id (suc k)) later
later_fresh id seats later first is each =
    let all : Each (λ (k : ℕ) (s : Known Entry). s ≡ fresh_seat id k) (first ∷ later) = subst (λ (ss : List (Known Entry)). Each (λ (k : ℕ) (s : Known Entry). s ≡ fresh_seat id k) ss) is each in
    λ k d less. all (suc k) d (omega (arith, less))

pub first_fresh : (id : TableId) (seats later : List (Known Entry)) (first : Known Entry) → seats ≡ first ∷ later → Each (λ k s. s ≡ fresh_seat id k) seats → first ≡ fresh_seat id 0
first_fresh id seats later first is each =
    let all : Each (λ (k : ℕ) (s : Known Entry). s ≡ fresh_seat id k) (first ∷ later) = subst (λ (ss : List (Known Entry)). Each (λ (k : ℕ) (s : Known Entry). s ≡ fresh_seat id k) ss) is each in
    all 0 first (omega arith)

pub fresh_may : (id : TableId) (k turns : ℕ) (s : Known Entry) → s ≡ fresh_seat id k → turns < MOST_TURNS → MayPerform id turns s
fresh_may id k turns s fresh few =
    let may : MayPerform id turns (fresh_seat id k) = record { free = (refl, refl); own = refl; room = omega (arith, few) } in
    subst (λ (s : Known Entry). MayPerform id turns s) (sym fresh) may

-- a later seat that met the first
pub met_ready : (id : TableId) (k : ℕ) (opening : List (Turn Entry)) (sessions : List (Vec Command Global)) (old : Known Entry) (w : Worker) → old ≡ fresh_seat id (suc k) → IsSameSeat old w.seat → w.seat.in_turn ≡ false
    → turns_by w.seat.number w.seat.seen ≡ w.seat.made → IsPrefix opening w.seat.seen → vec_len w.session < MOST_TURNS → k < length sessions → w.session ≡ get_or sessions k w.session
    → IsReady id opening (get_or (session_trees sessions) k []) k w
met_ready id k opening sessions old w fresh same free own met few less is =
    let made : w.seat.made ≡ [] = same.2 ∙ ap (λ (s : Known Entry). s.made) fresh in
    let none : length w.seat.made ≡ 0 = ap length made in
    record {
      may = record {
        free = (same.0 ∙ ap (λ (s : Known Entry). s.lock) fresh, free);
        own = own;
        room = omega (arith, none, few);
      };
      number = same.1 ∙ ap (λ (s : Known Entry). s.number) fresh;
      made = made;
      met = met;
      session_is = ap (λ (v : Vec Command Global). trees_in v.items) is ∙ sym (get_or-map (λ (v : Vec Command Global). trees_in v.items) sessions k w.session [] less);
    }

pub may_of_ready : (id : TableId) (opening : List (Turn Entry)) (sessions : List (List Tree)) (crew : List Worker) → AllReady id opening sessions crew → All (λ (w : Worker). MayPerform id (vec_len w.session) w.seat) crew
may_of_ready id opening sessions crew ready = λ k d less. (ready k d less).may

-- the first seat, once it has executed the opening
pub did_first : (id : TableId) (budget : ℕ) (old new : Known Entry) (session : List Tree) → old ≡ fresh_seat id 0 → Stays id old new → Performed budget session old new → Did id budget new.seen session 0 new
did_first id budget old new session fresh stays done =
    let number : old.number ≡ 0 = ap (λ (s : Known Entry). s.number) fresh in
    let made : new.made ≡ done.turns = done.made ∙ ap (λ (m : List (Turn Entry)). m ++ done.turns) (ap (λ (s : Known Entry). s.made) fresh) in
    let turns : All (IsTurnOf 0 budget) done.turns = subst (λ (n : ℕ). All (IsTurnOf n budget) done.turns) number done.of_seat in
    record {
      free = stays.free;
      number = stays.number ∙ number;
      commands = ap commands_in made ∙ done.commands_are;
      of_seat = subst (λ (ts : List (Turn Entry)). All (IsTurnOf 0 budget) ts) (sym made) turns;
      seen = ([], append-nil new.seen);
      opened = λ _. subst (λ (n : ℕ). turns_by n new.seen ≡ new.made) (stays.number ∙ number) stays.own;
      behind = λ less. let no : ⊥ = omega (arith, less) in absurd no;
    }

-- a later seat, once it has executed its session
pub did_later : (id : TableId) (budget k : ℕ) (opening : List (Turn Entry)) (session : List Tree) (old new : Worker) → IsReady id opening session k old → Worked id budget old new → new.refused ≡ false
    → Did id budget opening session (suc k) new.seat
did_later id budget k opening session old new ready worked accepted =
    let done = worked.all accepted in
    let stays = worked.stays in
    let made : new.seat.made ≡ done.turns = done.made ∙ ap (λ (m : List (Turn Entry)). m ++ done.turns) ready.made in
    let turns : All (IsTurnOf (suc k) budget) done.turns = subst (λ (n : ℕ). All (IsTurnOf n budget) done.turns) ready.number done.of_seat in
    let none : turns_by (suc k) old.seat.seen ≡ [] = subst (λ (n : ℕ). turns_by n old.seat.seen ≡ old.seat.made) ready.number ready.may.own ∙ ready.made in
    record {
      free = stays.free;
      number = stays.number ∙ ready.number;
      commands = ap commands_in made ∙ (done.commands_are ∙ ready.session_is);
      of_seat = subst (λ (ts : List (Turn Entry)). All (IsTurnOf (suc k) budget) ts) (sym made) turns;
      seen = prefix_trans opening old.seat.seen new.seat.seen ready.met stays.seen;
      opened = λ is. let no : ⊥ = omega (arith, is) in absurd no;
      behind = λ _. front_nil (turns_by (suc k) opening) (turns_by (suc k) ready.met.0)
          (sym (filter-append (λ (t : Turn Entry). t.by == suc k) opening ready.met.0) ∙ (ap (turns_by (suc k)) ready.met.1 ∙ none));
    }

abbrev WasRefused : Worker → Type 0
WasRefused w = w.refused ≡ false

module _ (id : TableId) (budget : ℕ) (opening : List (Turn Entry)) (sessions : List (List Tree)) (old : List Worker) where
  all_later : (new : List Worker) → length new ≡ length old → AllReady id opening sessions old → ((k : ℕ) (d : Worker) → k < length old → Worked id budget (get_or old k d) (get_or new k d))
      → All (λ (w : Worker). w.refused ≡ false) new → (k : ℕ) (d : Known Entry) → k < length new → Did id budget opening (get_or sessions k []) (suc k) (get_or (map (λ (w : Worker). w.seat) new) k d)
  all_later [] len ready worked accepted k d less = let no : ⊥ = omega (arith, less) in absurd no
  all_later (w ∷ ws) len ready worked accepted k d less =
      let before : k < length old = omega (arith, len, less) in
      subst (λ (s : Known Entry). Did id budget opening (get_or sessions k []) (suc k) s) (sym (get_or-map (λ (w : Worker). w.seat) (w ∷ ws) k w d less))
      (did_later id budget k opening (get_or sessions k []) (get_or old k w) (get_or (w ∷ ws) k w) (ready k w before) (worked k w before) (accepted k w less))

-- all of them
pub all_did : (id : TableId) (budget : ℕ) (first : Known Entry) (session : Vec Command Global) (later sessions : List (Vec Command Global)) (old new : List Worker) (seats : List (Known Entry))
    → sessions ≡ session ∷ later → Did id budget first.seen (trees_in session.items) 0 first → length new ≡ length old → AllReady id first.seen (session_trees later) old
    → ((k : ℕ) (d : Worker) → k < length old → Worked id budget (get_or old k d) (get_or new k d)) → All (λ (w : Worker). w.refused ≡ false) new → seats ≡ first ∷ map (λ (w : Worker). w.seat) new
    → AllDid id budget first.seen (session_trees sessions) seats
all_did id budget first session later sessions old new seats is did len ready worked accepted all =
    let each : AllDid id budget first.seen (session_trees (session ∷ later)) (first ∷ map (λ (w : Worker). w.seat) new) = whole in
    subst (λ (p : List (Vec Command Global) × List (Known Entry)). AllDid id budget first.seen (session_trees p.0) p.1) (λ i. (sym is i, sym all i)) each
  where
    whole : (k : ℕ) (d : Known Entry) → k < length (first ∷ map (λ (w : Worker). w.seat) new) → Did id budget first.seen (get_or (session_trees (session ∷ later)) k []) k (get_or (first ∷ map (λ (w : Worker). w.seat) new) k d)
    whole zero d less = did
    whole (suc k) d less =
        let within : k < length new = omega (arith, less, length-map new (λ (w : Worker). w.seat)) in
        all_later id budget first.seen (session_trees later) old new len ready worked accepted k d within

-- what a `zip` of seats and sessions gives next
pub paired_at : {A B : Type 0} (xs : List A) (ys : List B) (k : ℕ) (a : A) (b : B) → length xs ≡ length ys → (k < length (zip xs ys)) × ((a, b) ≡ get_or (zip xs ys) k (a, b))
    → (k < length xs) × (k < length ys) × (a ≡ get_or xs k a) × (b ≡ get_or ys k b)
paired_at {A = A} {B = B} xs ys k a b same at =
    let long : length (zip xs ys) ≡ min (length xs) (length ys) = length-zip xs ys in
    let in_first : k < length xs = omega (arith, long, at.0) in
    let in_second : k < length ys = omega (arith, long, at.0) in
    let both : (a, b) ≡ (get_or xs k a, get_or ys k b) = at.1 ∙ get_or-zip xs ys k (a, b) in_first in_second in
    (in_first, in_second, ap (λ (p : A × B). p.0) both, ap (λ (p : A × B). p.1) both)

pub paired_len : {A B : Type 0} (xs : List A) (ys : List B) (n : ℕ) → length xs ≡ length ys → n ≡ length (zip xs ys) → n ≡ length ys
paired_len xs ys n same is = let long : length (zip xs ys) ≡ min (length xs) (length ys) = length-zip xs ys in omega (arith, long, is, same)

module _ (id : TableId) (k : ℕ) (seats : List (Known Entry)) (sessions : List (Vec Command Global)) (old : Known Entry) (session : Vec Command Global) (fresh : Each (λ k s. s ≡ fresh_seat id (suc k)) seats) (same : length seats ≡ length sessions)
    (at : (k < length (zip seats sessions)) × ((old, session) ≡ get_or (zip seats sessions) k (old, session))) where
  pub next_fresh : old ≡ fresh_seat id (suc k)
  next_fresh = let p = paired_at seats sessions k old session same at in p.2 ∙ fresh k old p.0

  pub next_free : IsFree id old
  next_free = subst (λ (s : Known Entry). IsFree id s) (sym next_fresh) (refl, refl)

  -- a worker more
  pub ready_more : (opening : List (Turn Entry)) (new : Known Entry) (crew all : List Worker) → All (λ (v : Vec Command Global). vec_len v < MOST_TURNS) sessions
      → IsSameSeat old new → new.in_turn ≡ false → turns_by new.number new.seen ≡ new.made → IsPrefix opening new.seen → length crew ≡ k
      → AllReady id opening (session_trees sessions) crew → all ≡ crew ++ record { seat = new; session = session; refused = false } ∷ [] → AllReady id opening (session_trees sessions) all
  ready_more opening new crew all short stays free own met len ready is =
      let p = paired_at seats sessions k old session same at in
      let w : Worker = record { seat = new; session = session; refused = false } in
      let few : vec_len session < MOST_TURNS = subst (λ (v : Vec Command Global). vec_len v < MOST_TURNS) (sym p.3) (short k session p.1) in
      let one : IsReady id opening (get_or (session_trees sessions) k []) k w = met_ready id k opening sessions old w next_fresh stays free own met few p.1 p.3 in
      let P : ℕ → Worker → Type 0 = λ k w. IsReady id opening (get_or (session_trees sessions) k []) k w in
      subst (λ (ws : List Worker). AllReady id opening (session_trees sessions) ws) (sym is) (each_push P crew w ready (subst (λ (m : ℕ). P m w) (sym len) one))

-- the crew has what its slice was left with
pub kept_len : (crew : Vec Worker Global) (new : List Worker) → length (with_items crew new).items ≡ length crew.items
kept_len crew new = sym (with_items crew new).ok.0 ∙ crew.ok.0

pub worked_in : (id : TableId) (budget : ℕ) (crew : Vec Worker Global) (lent new : List Worker) → lent ≡ crew.items → length new ≡ crew.len
    → ((k : ℕ) (d : Worker) → k < length lent → Worked id budget (get_or lent k d) (get_or new k d))
    → (k : ℕ) (d : Worker) → k < length crew.items → Worked id budget (get_or crew.items k d) (get_or (with_items crew new).items k d)
worked_in id budget crew lent new is len worked =
    subst (λ (p : List Worker × List Worker). (k : ℕ) (d : Worker) → k < length p.0 → Worked id budget (get_or p.0 k d) (get_or p.1 k d)) (λ i. (is i, sym (with_items_is crew new len) i)) worked

-- a seat more is gathered
pub gathered_more : (first : Known Entry) (done : List Worker) (w : Worker) (seats all : List (Known Entry)) → seats ≡ first ∷ map (λ (w : Worker). w.seat) done → all ≡ seats ++ w.seat ∷ [] → all ≡ first ∷ map (λ (w : Worker). w.seat) (done ++ w ∷ [])
gathered_more first done w seats all was is =
    is ∙ (ap (λ (ss : List (Known Entry)). ss ++ w.seat ∷ []) was ∙ ap (λ (ss : List (Known Entry)). first ∷ ss) (sym (map_push (λ (w : Worker). w.seat) done w)))

-- the lists without their first, which are short
pub first_short : (sessions later : List (Vec Command Global)) (session : Vec Command Global) → sessions ≡ session ∷ later → All (λ (v : Vec Command Global). vec_len v < MOST_TURNS) sessions → vec_len session < MOST_TURNS
first_short sessions later session is short =
    All-head (λ (v : Vec Command Global). vec_len v < MOST_TURNS) session later (All-same (λ (v : Vec Command Global). vec_len v < MOST_TURNS) (session ∷ later) sessions (sym is) short)

pub later_short : (sessions later : List (Vec Command Global)) (session : Vec Command Global) → sessions ≡ session ∷ later → All (λ (v : Vec Command Global). vec_len v < MOST_TURNS) sessions → All (λ (v : Vec Command Global). vec_len v < MOST_TURNS) later
later_short sessions later session is short = All-rest (λ (v : Vec Command Global). vec_len v < MOST_TURNS) session later sessions is short

-- the whole run
pub run_did : (id : TableId) (budget : ℕ) (seats others : List (Known Entry)) (sessions later : List (Vec Command Global)) (session : Vec Command Global) (start first same_first : Known Entry) (old new : List Worker) (all : List (Known Entry))
    → seats ≡ start ∷ others → sessions ≡ session ∷ later → Each (λ k s. s ≡ fresh_seat id k) seats → Stays id start first → Performed budget (trees_in session.items) start first
    → same_first ≡ first → AllReady id first.seen (session_trees later) old → length new ≡ length old → ((k : ℕ) (d : Worker) → k < length old → Worked id budget (get_or old k d) (get_or new k d))
    → All (λ (w : Worker). w.refused ≡ false) new → all ≡ same_first ∷ map (λ (w : Worker). w.seat) new → AllDid id budget first.seen (session_trees sessions) all
run_did id budget seats others sessions later session start first same_first old new all seats_are sessions_are fresh stays done same ready len worked accepted all_are =
    let began : start ≡ fresh_seat id 0 = first_fresh id seats others start seats_are fresh in
    let did : Did id budget first.seen (trees_in session.items) 0 first = did_first id budget start first (trees_in session.items) began stays done in
    all_did id budget first session later sessions old new all sessions_are did len ready worked accepted (all_are ∙ ap (λ (s : Known Entry). s ∷ map (λ (w : Worker). w.seat) new) same)

pub tails_same : {A B : Type 0} (xs others : List A) (ys later : List B) (a : A) (b : B) → xs ≡ a ∷ others → ys ≡ b ∷ later → length xs ≡ length ys → length others ≡ length later
tails_same xs others ys later a b xs_are ys_are same =
    let long : length xs ≡ suc (length others) = ap length xs_are in
    let many : length ys ≡ suc (length later) = ap length ys_are in
    omega (arith, long, many, same)
