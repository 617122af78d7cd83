-- How the machine answers a task that a host asks, in the terms of the plain machine.
use Rattle.vm_eval.specs.Below.{ℕ, List, [], Ok, Err, Answer, PyResult, Done, Budget, Task, Ending, Over, NoUnits, Outcome, Out, answer, without_calls, World, Reading, Reads, plain, task_of, answer_of, Claim}
use Rattle.std.specs.Prelude.{◌≡◌}
use Rattle.py_node.specs.declared.task.PyResult.TheVariants.{Raised}
use Rattle.vm_eval.specs.Say.{say}

-- how the task ended
abbrev pub ending_in : PyResult Answer → Ending
ending_in (Done a) = Over (Ok (answer_of a))
ending_in (Raised x) = Over (Err x)
ending_in Budget = NoUnits

-- the outcome, without the notes of the bodies that were started
abbrev pub unnoted : Outcome → Outcome
unnoted (Out w e left) = Out (without_calls w) e left

-- asked with so many units, and with no row below it, the task leads from one world to the other and ends so
abbrev pub Asked : Task → World → ℕ → World → PyResult Answer → Type 0
Asked task old units new result =
    (t : Reading) → Reads t new → Reads t old × (left : ℕ) × (unnoted (answer say (plain t old) (task_of t task) units 0) ≡ Out (plain t new) (ending_in result) left)

-- what is said of a task's value, where this is said of each
abbrev pub of_done : {T : Type 0} → (T → List Claim) → PyResult T → List Claim
of_done of (Done x) = of x
of_done of (Raised x) = []
of_done of Budget = []
