-- How sessions are read.
use Rattle.script_text.proofs.Below.{ℕ, suc, Bool, true, false, cond, List, [], length, get_or, drop, map, Some, ok_or, Vec, Global, inl, inr, refl, ap, ◌∙◌, ne_eqb, arith, leb, Err, le-leb, lt-leb, array, view, items_view, Value, Command, NoCommand, Shape, list_of, command_trees, are_few, count_in, lacks_command, lists_in, is_empty_array, sessions_in}
use Rattle.std.proofs.Common.{◌≡◌, ◌+◌, ◌<◌, ◌≤◌, ◌⊎◌, ◌∷◌, ◌++◌}
use Rattle.std.specs.Prelude.{◌==◌, ◌&&◌}
use Rattle.script_text.proofs.JsonText.Lists.{onto, turn}

pub count-is-length : (vs : List Value) → count_in (items_view vs) ≡ length vs
unfolding count_in
count-is-length [] = refl
count-is-length (v ∷ vs) = ap (λ n. suc n) (count-is-length vs)

pub lists-turn : (vs : List Value) (i : ℕ) (v : Value) (found : List (Vec Command Global)) (s : Vec Command Global) → i < length vs → v ≡ get_or vs i v → list_of (view v) ≡ Some (command_trees s.items)
    → lists_in (items_view vs) ≡ onto (map (λ s. command_trees s.items) found) (lists_in (items_view (drop i vs)))
    → lists_in (items_view vs) ≡ onto (map (λ s. command_trees s.items) (found ++ s ∷ [])) (lists_in (items_view (drop (i + 1) vs)))
unfolding lists_in
lists-turn vs i v found s = turn (λ w. list_of (view w)) (λ ws. lists_in (items_view ws)) (λ (s : Vec Command Global). command_trees s.items) (λ w ws. refl) vs i v found s (lists_in (items_view vs))

-- whether an array is empty, as the code tests it
pub empty-rows : (vs : List Value) → (length vs == 0) ≡ is_empty_array (array (items_view vs))
unfolding is_empty_array
empty-rows [] = refl
empty-rows (v ∷ vs) = ne_eqb (suc (length vs)) 0 (omega arith)

and_false : (b : Bool) → (b && false) ≡ false
and_false true = refl
and_false false = refl

other_count : (n : ℕ) → (n < 2) ⊎ (9 < n) → are_few n ≡ false
other_count n (inl less) = ap (λ b. b && leb n 9) (lt-leb 2 n less)
other_count n (inr more) = ap (λ b. leb 2 n && b) (lt-leb n 9 more) ∙ and_false (leb 2 n)

fit_count : (n : ℕ) → 2 ≤ n → n ≤ 9 → are_few n ≡ true
fit_count n low high = ap (λ b. b && leb n 9) (le-leb 2 n low) ∙ le-leb n 9 high

-- as many lists as sessions may be
pub fit-rows : (vs : List Value) → lacks_command (items_view vs) ≡ false → 2 ≤ length vs → length vs ≤ 9 → sessions_in (items_view vs) ≡ ok_or (lists_in (items_view vs)) Shape
unfolding sessions_in
fit-rows vs lacks low high =
    let ds = items_view vs in
    let few = ap are_few (count-is-length vs) ∙ fit_count (length vs) low high in
    ap (λ b. cond b (Err NoCommand) (cond (are_few (count_in ds)) (ok_or (lists_in ds) Shape) (Err Shape))) lacks
    ∙ ap (λ b. cond b (ok_or (lists_in ds) Shape) (Err Shape)) few

-- fewer or more
pub other-rows : (vs : List Value) → lacks_command (items_view vs) ≡ false → (length vs < 2) ⊎ (9 < length vs) → sessions_in (items_view vs) ≡ Err Shape
unfolding sessions_in
other-rows vs lacks other =
    let ds = items_view vs in
    let many = ap are_few (count-is-length vs) ∙ other_count (length vs) other in
    ap (λ b. cond b (Err NoCommand) (cond (are_few (count_in ds)) (ok_or (lists_in ds) Shape) (Err Shape))) lacks
    ∙ ap (λ b. cond b (ok_or (lists_in ds) Shape) (Err Shape)) many
