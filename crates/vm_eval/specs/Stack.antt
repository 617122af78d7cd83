-- What a task comes to on the stack of frames, in the terms of the plain machine.
use Rattle.vm_eval.specs.Below.{ℕ, List, [], length, Ok, Result, Raised as Fault, Answer, Task, Step, Ask, End, Ending, Over, NoUnits, Out, reach, answer, World, Held, Reading, Reads, plain, task_of, ended_of, Claim, LeavesOpen, of_ended, fault, DepthLimit}
use Rattle.std.specs.Prelude.{◌≡◌, ◌<◌, ◌≤◌, ◌∷◌, ◌++◌}
use Rattle.vm_eval.specs.declared.stack.Kept.{Kept}
use Rattle.vm_eval.specs.declared.stack.End.{End as CodeEnd}
use Rattle.vm_eval.specs.declared.stack.End.TheVariants as code
use Rattle.vm_eval.specs.declared.stack.Next.{Next}
use Rattle.vm_eval.specs.declared.stack.Next.TheVariants as next
use Rattle.vm_eval.specs.Say.{say, of_kept, bodies_in, Begins, Resumes}

-- a step is taken so: what is kept goes on top of the stack
abbrev pub IsTaken : Step Kept → List Kept → List Kept → Next → Type 0
IsTaken (Ask asked kept) below stack (next.Ask task) = (task ≡ asked) × (stack ≡ below ++ kept ∷ [])
IsTaken (Ask asked kept) below stack (next.End r) = ⊥
IsTaken (End r) below stack (next.Ask task) = ⊥
IsTaken (End r) below stack (next.End s) = (s ≡ r) × (stack ≡ below)

-- a row comes to a step of which this holds, and which is taken
abbrev pub Comes : (Step Kept → Type 0) → List Kept → List Kept → Next → Type 0
Comes Is below stack next = (step : Step Kept) × Is step × IsTaken step below stack next

-- the first step of a task
abbrev pub IsFirst : Task → World → World → Step Kept → Type 0
IsFirst task old new step = Begins task old new step × LeavesOpen of_kept bodies_in 0 old new (Ok step)

-- the first step of a task that a row asked, at so great a depth: one that stands too deep ends at once
abbrev pub IsFirstAbove : ℕ → Task → World → World → Step Kept → Type 0
IsFirstAbove depth task old new step =
    (depth < 1000 → IsFirst task old new step) × (1000 ≤ depth → (step ≡ End (fault DepthLimit)) × (new ≡ old))

-- the next step of a row that was given an answer
abbrev pub IsNext : Kept → Result Answer Fault → World → World → Step Kept → Type 0
IsNext kept r old new step = Resumes kept r old new step × LeavesOpen of_kept bodies_in (bodies_in kept) old new (Ok step)

-- how a command ended, in the terms of the plain machine
abbrev pub ending_of : CodeEnd → Ending
ending_of (code.Over r) = Over (ended_of r)
ending_of code.NoUnits = NoUnits

-- the task comes to this, from one world to the other
abbrev pub Reaches : Task → World → ℕ → World → CodeEnd → Type 0
Reaches task old units new end =
    (t : Reading) → Reads t new → Reads t old × (left : ℕ) × (reach say (plain t old) (task_of t task) [] units 0 ≡ Out (plain t new) (ending_of end) left)

-- the task is answered so
abbrev pub Answers : Task → World → ℕ → World → CodeEnd → Type 0
Answers task old units new end =
    (t : Reading) → Reads t new → Reads t old × (left : ℕ) × (answer say (plain t old) (task_of t task) units 0 ≡ Out (plain t new) (ending_of end) left)

abbrev pub of_end : CodeEnd → List Claim
of_end (code.Over r) = of_ended r
of_end code.NoUnits = []

-- as many bodies run as before
abbrev pub AsDeep : Held → Held → Type 0
AsDeep old new = length new.scopes ≡ length old.scopes

-- the same, where a command ended by itself; where its units were used up, no body of before is over
abbrev pub EndsDeep : Held → Held → CodeEnd → Type 0
EndsDeep old new (code.Over r) = AsDeep old new
EndsDeep old new code.NoUnits = length old.scopes ≤ length new.scopes
