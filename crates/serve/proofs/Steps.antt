-- The draws and the commands of one step.
use Rattle.serve.proofs.Below.{ℕ, zero, suc, List, [], map, refl, sym, ap, ◌∙◌, arith, false, range_with_len, eqb-suc-zero, append_assoc, map-range_with_len_more, Tree, next, after, plain_run, start, World, IsReadable, say, Tally, Counts, generated, class_command, change_command, Ran}
use Rattle.std.proofs.Common.{◌≡◌, ◌+◌, ◌-◌, ◌*◌, ◌==◌, if◌then◌else◌, ◌∷◌, ◌++◌}

-- the classes made so far, and the changes
abbrev pub classes_made : ℕ → ℕ → List Tree
classes_made seed n = map (λ i. class_command (after (i - 1) seed) i) (range_with_len 0 n)

abbrev pub changes_made : ℕ → ℕ → List Tree
changes_made seed n = map (λ i. change_command (after (7 + 3 * i) seed) i) (range_with_len 0 n)

-- a class but the first takes a draw
pub class-draw : (seed i : ℕ) → after (if i == 0 then 0 else 1) (after (i - 1) seed) ≡ after (i + 1 - 1) seed
class-draw seed zero = refl
class-draw seed (suc j) =
    let here : suc j - 1 ≡ j = omega arith in
    let there : suc j + 1 - 1 ≡ suc j = omega arith in
    let later : (suc j == 0) ≡ false = eqb-suc-zero j in
    ap (λ b. after (if b then 0 else 1) (after (suc j - 1) seed)) later
    ∙ ap (λ n. next (after n seed)) here ∙ ap (λ n. after n seed) (sym there)

-- a change takes three
pub change-draws : (seed i : ℕ) → after 3 (after (7 + 3 * i) seed) ≡ after (7 + 3 * (i + 1)) seed
change-draws seed i =
    let more : suc (suc (suc (7 + 3 * i))) ≡ 7 + 3 * (i + 1) = omega arith in
    ap (λ n. after n seed) more

pub class-more : (seed i draws : ℕ) (c : Tree) → draws ≡ after (i - 1) seed → c ≡ class_command draws i
    → classes_made seed i ++ c ∷ [] ≡ classes_made seed (i + 1)
class-more seed i draws c at is =
    ap (λ x. classes_made seed i ++ x ∷ []) (is ∙ ap (λ x. class_command x i) at)
    ∙ sym (map-range_with_len_more (λ i. class_command (after (i - 1) seed) i) 0 i i (omega arith))

pub change-more : (first : List Tree) (seed i draws : ℕ) (c : Tree) → draws ≡ after (7 + 3 * i) seed → c ≡ change_command draws i
    → (first ++ changes_made seed i) ++ c ∷ [] ≡ first ++ changes_made seed (i + 1)
change-more first seed i draws c at is =
    append_assoc first (changes_made seed i) (c ∷ [])
    ∙ ap (λ cs. first ++ cs) (ap (λ x. changes_made seed i ++ x ∷ []) (is ∙ ap (λ x. change_command x i) at)
    ∙ sym (map-range_with_len_more (λ i. change_command (after (7 + 3 * i) seed) i) 0 i i (omega arith)))

-- in the end all replies are counted
pub all-counted : (seed count : ℕ) (world : World) (tally : Tally) → IsReadable world
    → Ran (classes_made seed 8 ++ changes_made seed count) world tally
    → Counts tally (plain_run say start (generated seed count) 10000).replies
unfolding generated
all-counted seed count world tally readable ran = (ran readable.0 readable.1).1
