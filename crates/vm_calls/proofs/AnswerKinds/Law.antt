-- A task's answer is of its kind, where each task's row is: whatever is asked on the way is so before.
use Rattle.vm_calls.proofs.Below.{ℕ, zero, suc, Bool, true, false, cond, nat_lt, length, [], Ok, subst, append_assoc, append-nil, PlainWorld, PlainTask, PlainAnswer, Ended, Answered, Told, Said, Asks, Ends, Saying, Over, NoUnits, Outcome, Out, Follow, carry, asked, step, follow, reach, closing, answer, Kind, is_of, kind_of}
use Rattle.std.proofs.Common.{◌≡◌, ◌∷◌, ◌++◌}
use Rattle.vm_calls.proofs.AnswerKinds.Base.{So, Fits, Family, GoesOn, Kinded, goes-on}

-- where a task is over, its answer is of the kind
abbrev pub IsGood : Kind → Outcome → Type 0
IsGood k (Out u (Over r) left) = Fits k r
IsGood k (Out u NoUnits left) = Unit {0}

either : (k : Kind) (b : Bool) (o p : Outcome) → IsGood k o → IsGood k p → IsGood k (cond b o p)
either k true o p x y = x
either k false o p x y = y

carried : (j k : Kind) (go : PlainWorld → Ended → ℕ → Outcome) (o : Outcome) → IsGood j o → ((u : PlainWorld) (r : Ended) (left : ℕ) → Fits j r → IsGood k (go u r left)) → IsGood k (carry go o)
carried j k go (Out u (Over r) left) h p = p u r left h
carried j k go (Out u NoUnits left) h p = tt

closed : (k : Kind) (n : ℕ) (o : Outcome) → IsGood k o → IsGood k (closing n o)
closed k n (Out u (Over r) left) h = h
closed k n (Out u NoUnits left) h = tt

module _ (say : Saying PlainTask) (rows : (task : PlainTask) → Kinded (kind_of task) (λ w. say w task)) where
  -- the row of a task that has learnt something
  abbrev At : PlainTask → Told → Family
  At task told = λ w more. say w task (told ++ more)

  regrouped : (told learnt : Told) (r : Ended) (more : Told) → told ++ (learnt ++ Answered r ∷ more) ≡ ((told ++ learnt) ++ Answered r ∷ []) ++ more
  regrouped told learnt r more = simp append_assoc

  abbrev Follows : Follow → Type 0
  Follows f = (w : PlainWorld) (task : PlainTask) (told : Told) (left depth : ℕ) → Kinded (kind_of task) (At task told) → IsGood (kind_of task) (f w task told left depth)

  stepped-good : (f : Follow) → Follows f → (task : PlainTask) (told : Told) (depth : ℕ) (said : Said) (left : ℕ) → GoesOn (Kinded (kind_of task)) (kind_of task) (At task told) said → IsGood (kind_of task) (step f task told depth said left)
  stepped-good f p task told depth (Ends u r) left h = h
  stepped-good f p task told depth (Asks u learnt other) zero h = tt
  stepped-good f p task told depth (Asks u learnt other) (suc left) h =
      carried (kind_of other) (kind_of task) _ (asked f u other left (suc depth))
      (either (kind_of other) (nat_lt (suc depth) 1000) _ _ (p u other [] left (suc depth) (rows other)) tt)
      (λ v r left x. p v task ((told ++ learnt) ++ Answered r ∷ []) left depth
      (subst (Kinded (kind_of task)) (λ i v more. say v task (regrouped told learnt r more i)) (h r x)))

  followed : (n : ℕ) → Follows (follow say n)
  unfolding follow
  followed zero w task told left depth p = tt
  followed (suc n) w task told left depth p = stepped-good (follow say n) (followed n) task told depth (say w task told) left (subst (λ t. GoesOn (Kinded (kind_of task)) (kind_of task) (At task told) (say w task t)) (append-nil told) (goes-on (kind_of task) (At task told) p w))

  pub of-its-kind : (w u : PlainWorld) (task : PlainTask) (a : PlainAnswer) (units depth left : ℕ) → answer say w task units depth ≡ Out u (Over (Ok a)) left → So (is_of (kind_of task) a)
  unfolding reach
  of-its-kind w u task a units depth left e =
      subst (IsGood (kind_of task)) e (closed (kind_of task) (length w.scopes) (reach say w task [] units depth) (followed (suc units) w task [] units depth (rows task)))
