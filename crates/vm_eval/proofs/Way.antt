-- What the machine is on its way to while it takes turns, in the terms of `reach`.
use Rattle.vm_eval.proofs.Below.{ℕ, zero, suc, List, [], length, Task, Step, Ask, End, PlainWorld, PlainTask, Answered, Over, NoUnits, Outcome, Out, carry, asked, reach, Ended, Told, World, Held, Reading, Reads, plain, task_of, ended_of, AllHold, Lasts, of_each, of_step, left_open, sum_by, Kept, say, stands, of_kept, bodies_in, IsTaken}
use Rattle.std.proofs.Common.{◌≡◌, ◌+◌, ◌∷◌, ◌++◌}
use Rattle.vm_eval.specs.declared.stack.Next.{Next}
use Rattle.vm_eval.specs.declared.stack.Next.TheVariants as next

-- a row at some point: its task, and what it has learnt so far
pub record Pending : Type 0 where
  pub task : PlainTask
  pub told : Told

-- a row's outcome, from the outcome of what it asked
abbrev pub finish : Pending → ℕ → Outcome → Outcome
finish p depth o = carry (λ w r left. reach say w p.task (p.told ++ Answered r ∷ []) left depth) o

-- the outcome of the lowest frame, from the outcome of what the top frame asked
abbrev pub unwind : ℕ → List Pending → Outcome → Outcome
unwind depth [] o = o
unwind depth (p ∷ ps) o = finish p depth (unwind (suc depth) ps o)

-- a row waits here: at each answer, it does what is done with that where this is kept
abbrev pub Waits : Reading → Kept → Pending → Type 0
Waits t kept p = (w : PlainWorld) (r : Ended) (more : Told) → say w p.task (p.told ++ Answered r ∷ more) ≡ stands t kept r w more

-- such a row for each frame
abbrev pub AllWait : Reading → List Kept → List Pending → Type 0
AllWait t [] [] = Unit {0}
AllWait t (kept ∷ stack) (p ∷ ps) = Waits t kept p × AllWait t stack ps
AllWait t _ _ = ⊥

-- the row that has come to this step, where it asks
abbrev pub WaitsAt : Reading → Step Kept → Pending → Type 0
WaitsAt t (End r) p = Unit {0}
WaitsAt t (Ask task kept) p = Waits t kept p

-- its outcome
abbrev pub coming : Reading → Step Kept → Pending → PlainWorld → ℕ → ℕ → Outcome
coming t (End r) p w left depth = Out w (Over (ended_of r)) left
coming t (Ask task kept) p w zero depth = Out w NoUnits zero
coming t (Ask task kept) p w (suc left) depth = finish p depth (asked (reach say) w (task_of t task) left (suc depth))

-- the first step of a task that a row asked, at so great a depth: what is asked comes to the same
abbrev pub BeginsAt : ℕ → Task → World → World → Step Kept → Type 0
BeginsAt depth task old new step =
    (t : Reading) → Reads t new → Reads t old × (p : Pending) × WaitsAt t step p × ((left : ℕ) → asked (reach say) (plain t old) (task_of t task) left depth ≡ coming t step p (plain t new) left depth)

-- the machine is on its way to this outcome
unfoldable pub LeadsTo : Reading → World → List Kept → ℕ → Step Kept → Outcome → Type 0
LeadsTo t w stack left step o =
    (ps : List Pending) × (p : Pending) × AllWait t stack ps × WaitsAt t step p × (unwind 0 ps (coming t step p (plain t w) left (length ps)) ≡ o)

-- so many bodies run that the task did not begin, and besides them those that are open in the frames and in the step
abbrev pub RunsAbove : ℕ → Held → List Kept → Step Kept → Type 0
RunsAbove below w stack step = length w.scopes ≡ below + (sum_by bodies_in stack + left_open bodies_in step)

-- the machine is on its way to what a task comes to that began in the first world and may use so many units
pub record IsOnItsWay (task : Task) (first : World) (units : ℕ) (w : World) (stack : List Kept) (left : ℕ) (step : Step Kept) : Type 0 where
  pub outcome : (t : Reading) → Reads t w → Reads t first × LeadsTo t w stack left step (reach say (plain t first) (task_of t task) [] units 0)
  pub lasts : Lasts first w
  pub bodies : RunsAbove (length first.scopes) w stack step
  pub frames : AllHold w (of_each of_kept stack)
  pub claims : AllHold w (of_step of_kept step)

-- the same, where the step was taken
abbrev pub IsUnderWay : Task → World → ℕ → World → List Kept → ℕ → Next → Type 0
IsUnderWay task first units w stack left next =
    (step : Step Kept) × (below : List Kept) × IsTaken step below stack next × IsOnItsWay task first units w below left step

-- how many turns more there are than two for each unit and one for each frame
abbrev pub turns_more : Next → ℕ
turns_more (next.Ask task) = 0
turns_more (next.End r) = 1
