-- The replies to commands are those to the first ones, and then those to the rest in the world after them.
use Rattle.generator.proofs.Below.{ℕ, List, [], length, refl, ap, ◌∙◌, arith, Tree, PlainWorld, DoEval, PlainTask, ToEval, Saying, Outcome, Out, Run, answer, answering, replied, plain_run, without_calls}
use Rattle.std.proofs.Common.{◌≡◌, ◌+◌, ◌∷◌, ◌++◌}

-- a run, and then what comes after it
abbrev pub then_run : Run → (PlainWorld → Run) → Run
then_run first go = let rest = go first.world in record { world = rest.world; replies = first.replies ++ rest.replies }

replied-then : (f g h : PlainWorld → Run) → ((w : PlainWorld) → f w ≡ then_run (g w) h) → (o : Outcome) → replied f o ≡ then_run (replied g o) h
replied-then f g h same (Out w e left) =
    ap (λ (run : Run). record { world = run.world; replies = record { answer = answering w e; calls = w.calls } ∷ run.replies }) (same (without_calls w))

-- commands in two parts
pub run-append : (say : Saying PlainTask) (xs ys : List Tree) (units : ℕ) (w : PlainWorld)
    → plain_run say w (xs ++ ys) units ≡ then_run (plain_run say w xs units) (λ v. plain_run say v ys units)
run-append say [] ys units w = refl
run-append say (x ∷ xs) ys units w =
    replied-then (λ v. plain_run say v (xs ++ ys) units) (λ v. plain_run say v xs units) (λ v. plain_run say v ys units)
    (λ v. run-append say xs ys units v) (answer say w (ToEval (DoEval x)) units 0)

replied-length : (f : PlainWorld → Run) (n : ℕ) → ((w : PlainWorld) → length (f w).replies ≡ n) → (o : Outcome) → length (replied f o).replies ≡ n + 1
replied-length f n each (Out w e left) = let rest = each (without_calls w) in omega (arith, rest)

-- a reply to each command
pub run-length : (say : Saying PlainTask) (xs : List Tree) (units : ℕ) (w : PlainWorld) → length (plain_run say w xs units).replies ≡ length xs
run-length say [] units w = refl
run-length say (x ∷ xs) units w =
    replied-length (λ v. plain_run say v xs units) (length xs) (λ v. run-length say xs units v) (answer say w (ToEval (DoEval x)) units 0)
    ∙ omega arith
