-- The rule of `reach` that needs no bound on the units: it follows what the row says.
use Rattle.plain_machine.proofs.Below.{ℕ, zero, suc, [], refl, sym, ap, ◌∙◌, arith, true, false, cond, DepthLimit, PlainWorld, PlainTask, Ended, Answered, Told, Said, Asks, Ends, Saying, fault, Over, NoUnits, Outcome, Out, Follow, carry, asked, step, follow, reach}
use Rattle.std.proofs.Common.{◌≡◌, ◌<◌, ◌≤◌, ◌∷◌, ◌++◌, nat_lt}

abbrev units_of : Outcome → ℕ
units_of (Out w e left) = left

-- what a task comes to with no more units than it was given
record Spends (f : Follow) (bound : ℕ) : Type 0 where
  fewer : (w : PlainWorld) (task : PlainTask) (told : Told) (left depth : ℕ) → left < bound → units_of (f w task told left depth) ≤ left

-- the two agree below a number of units
record Agree (f g : Follow) (bound : ℕ) : Type 0 where
  same : (w : PlainWorld) (task : PlainTask) (told : Told) (left depth : ℕ) → left < bound → f w task told left depth ≡ g w task told left depth

-- what a row goes on with once its asked task is answered
abbrev rest_of : Follow → PlainTask → Told → ℕ → PlainWorld → Ended → ℕ → Outcome
rest_of f task told depth w r left = f w task (told ++ Answered r ∷ []) left depth

abbrev too_deep : PlainWorld → ℕ → Outcome
too_deep w left = Out w (Over (fault DepthLimit)) left

carry-spends : (go : PlainWorld → Ended → ℕ → Outcome) (o : Outcome) (n : ℕ) → units_of o ≤ n → ((w : PlainWorld) (r : Ended) (left : ℕ) → left ≤ n → units_of (go w r left) ≤ left) → units_of (carry go o) ≤ n
carry-spends go (Out w (Over r) left) n h k = let a = k w r left h in omega arith
carry-spends go (Out w NoUnits left) n h k = h

asked-spends : (f : Follow) (bound : ℕ) → Spends f bound → (w : PlainWorld) (task : PlainTask) (left depth : ℕ) → left < bound → units_of (asked f w task left depth) ≤ left
asked-spends f bound s w task left depth h =
    elim (nat_lt depth 1000) as (λ b. units_of (cond b (f w task [] left depth) (too_deep w left)) ≤ left) [ true ↦ s.fewer w task [] left depth h | false ↦ omega arith ]

step-spends : (f : Follow) (bound : ℕ) → Spends f bound → (task : PlainTask) (told : Told) (depth : ℕ) (said : Said) (left : ℕ) → left < suc bound → units_of (step f task told depth said left) ≤ left
step-spends f bound s task told depth (Ends w r) left h = omega arith
step-spends f bound s task told depth (Asks w learnt other) zero h = omega arith
step-spends f bound s task told depth (Asks w learnt other) (suc left) h =
    let below : left < bound = omega arith in
    let a : units_of (carry (rest_of f task (told ++ learnt) depth) (asked f w other left (suc depth))) ≤ left =
    carry-spends (rest_of f task (told ++ learnt) depth) (asked f w other left (suc depth)) left (asked-spends f bound s w other left (suc depth) below) (λ w r l q. s.fewer w task ((told ++ learnt) ++ Answered r ∷ []) l depth (omega arith)) in
    omega arith

carry-agrees : (f g : PlainWorld → Ended → ℕ → Outcome) (o : Outcome) (n : ℕ) → units_of o ≤ n → ((w : PlainWorld) (r : Ended) (left : ℕ) → left ≤ n → f w r left ≡ g w r left) → carry f o ≡ carry g o
carry-agrees f g (Out w (Over r) left) n h k = k w r left h
carry-agrees f g (Out w NoUnits left) n h k = refl

step-agrees : (f g : Follow) (bound : ℕ) → Spends f bound → Agree f g bound → (task : PlainTask) (told : Told) (depth : ℕ) (said : Said) (left : ℕ) → left < suc bound → step f task told depth said left ≡ step g task told depth said left
step-agrees f g bound s a task told depth (Ends w r) left h = refl
step-agrees f g bound s a task told depth (Asks w learnt other) zero h = refl
step-agrees f g bound s a task told depth (Asks w learnt other) (suc left) h =
    let below : left < bound = omega arith in
    let e : asked f w other left (suc depth) ≡ asked g w other left (suc depth) =
    ap (λ o. cond (nat_lt (suc depth) 1000) o (too_deep w left)) (a.same w other [] left (suc depth) below) in
    carry-agrees (rest_of f task (told ++ learnt) depth) (rest_of g task (told ++ learnt) depth) (asked f w other left (suc depth)) left (asked-spends f bound s w other left (suc depth) below) (λ w r l q. a.same w task ((told ++ learnt) ++ Answered r ∷ []) l depth (omega arith))
    ∙ ap (carry (rest_of g task (told ++ learnt) depth)) e

module _ (say : Saying PlainTask) where
  follow-spends : (n : ℕ) → Spends (follow say n) n
  unfolding follow
  follow-spends zero = record { fewer = λ w task told left depth h. omega arith }
  follow-spends (suc n) = record { fewer = λ w task told left depth h. step-spends (follow say n) n (follow-spends n) task told depth (say w task told) left h }

  -- a larger bound on the units changes nothing
  follow-agrees : (n m : ℕ) → n ≤ m → Agree (follow say n) (follow say m) n
  unfolding follow
  follow-agrees zero m l = record { same = λ w task told left depth h. absurd (omega arith) }
  follow-agrees (suc n) zero l = absurd (omega arith)
  follow-agrees (suc n) (suc m) l =
      record { same = λ w task told left depth h. step-agrees (follow say n) (follow say m) n (follow-spends n) (follow-agrees n m (omega arith)) task told depth (say w task told) left h }

  reach-agrees : (n : ℕ) → Agree (follow say n) (reach say) n
  unfolding reach
  reach-agrees n = record { same = λ w task told left depth h. sym ((follow-agrees (suc left) n (omega arith)).same w task told left depth (omega arith)) }

  -- the rule of `reach`: it follows what the row says
  pub reach-is : (w : PlainWorld) (task : PlainTask) (told : Told) (left depth : ℕ) → reach say w task told left depth ≡ step (reach say) task told depth (say w task told) left
  unfolding reach follow
  reach-is w task told left depth =
      step-agrees (follow say left) (reach say) left (follow-spends left) (reach-agrees left) task told depth (say w task told) left (omega arith)
