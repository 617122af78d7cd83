-- What a host is told that asks the machine for a task.
use Rattle.vm_calls.specs.Below.{ℕ, ℤ, Bool, true, false, cond, List, [], Option, None, Result, Ok, Err, IfOk, OnOk, OnErr, IsTrue, PyObjectRef, Answer, PyMethod, PyResult, Done, Raised, Budget, Task, PlainWorld, IsSound, of_answer, of_method, Held, Reading, Reads, plain, IsReadable, AllHold, Claim, Grows, of_node_ref, of_option, RunFault, Asked, of_done, State}
use Rattle.std.specs.Prelude.{◌≡◌}
use Rattle.vm_eval.specs.declared.machine.RunFault.TheVariants as run_fault
use Rattle.vm_calls.specs.Answers.{IsAnswer, IsObject, IsMaybe, IsMethod, IsDone, IsTruth, IsOpposite, IsOrder, IsNumber, IsLength, IsHint, IsHintOr, IsSome}

-- a call ends as the task did: what is told is such of the answer
abbrev pub EndsLike : {T : Type 0} → (T → Answer → Type 0) → PyResult T → PyResult Answer → Type 0
EndsLike Is (Done x) (Done a) = Is x a
EndsLike Is (Raised x) (Raised y) = x ≡ y
EndsLike Is Budget Budget = Unit {0}
EndsLike Is _ _ = ⊥

-- the machine tells something: where there is an answer, this holds of the worlds before and after it and of the answer; what it names is there. On a machine that has failed nothing is done, else only want of memory is another answer, and the machine has failed then. However it ends, the world is sound, what held of numbers holds still, and no body runs
pub record Tells {R : Type 0} (Leads : Held → Held → R → Type 0) (of : R → List Claim) (old new : State) (result : Result R RunFault) : Type 0 where
  pub leads : IfOk result (λ r. Leads old.world new.world r)
  pub holds : IfOk result (λ r. AllHold new.world (of r))
  pub failed : IsTrue old.failed → (result ≡ Err run_fault.Failed) × (new ≡ old)
  pub memory : old.failed ≡ false → result ≡ Err run_fault.Failed → ⊥
  pub works : OnOk result (new.failed ≡ old.failed)
  pub gives_up : OnErr result (IsTrue new.failed)
  pub readable : OnOk result (IsReadable new.world)
  pub grows : Grows old.world new.world
  pub rests : (t : Reading) → (plain t new.world).scopes ≡ []
  pub sound : (t : Reading) → IsSound (plain t new.world)

-- this task ended between the worlds, and what is told is such of its answer
abbrev pub EndIs : {T : Type 0} → (Held → Held → PyResult Answer → Type 0) → (T → Answer → Type 0) → Held → Held → PyResult T → Type 0
EndIs Ended Is old new told = (end : PyResult Answer) × Ended old new end × EndsLike Is told end

-- the machine answers the task, from one machine to the other: the answer and the world then are the plain machine's, and what is told is such of the answer
abbrev pub Told : {T : Type 0} → (T → Answer → Type 0) → (T → List Claim) → Task → ℕ → State → State → Result (PyResult T) RunFault → Type 0
Told Is of task units = Tells (EndIs (λ old. Asked task old units) Is) (of_done of)

-- what names nothing
abbrev pub of_nothing : {T : Type 0} → T → List Claim
of_nothing x = []

-- the same, by what the value is

abbrev pub TellsAnswer : Task → ℕ → State → State → Result (PyResult Answer) RunFault → Type 0
TellsAnswer = Told IsAnswer of_answer

abbrev pub TellsObject : Task → ℕ → State → State → Result (PyResult PyObjectRef) RunFault → Type 0
TellsObject = Told IsObject of_node_ref

abbrev pub TellsMaybe : Task → ℕ → State → State → Result (PyResult (Option PyObjectRef)) RunFault → Type 0
TellsMaybe = Told IsMaybe (of_option of_node_ref)

abbrev pub TellsMethod : Task → ℕ → State → State → Result (PyResult PyMethod) RunFault → Type 0
TellsMethod = Told IsMethod of_method

abbrev pub TellsDone : Task → ℕ → State → State → Result (PyResult (Unit {0})) RunFault → Type 0
TellsDone = Told IsDone of_nothing

abbrev pub TellsTruth : Task → ℕ → State → State → Result (PyResult Bool) RunFault → Type 0
TellsTruth = Told IsTruth of_nothing

abbrev pub TellsOpposite : Task → ℕ → State → State → Result (PyResult Bool) RunFault → Type 0
TellsOpposite = Told IsOpposite of_nothing

abbrev pub TellsOrder : Task → ℕ → State → State → Result (PyResult (Option Bool)) RunFault → Type 0
TellsOrder = Told IsOrder of_nothing

abbrev pub TellsNumber : Task → ℕ → State → State → Result (PyResult ℤ) RunFault → Type 0
TellsNumber = Told IsNumber of_nothing

abbrev pub TellsLength : Task → ℕ → State → State → Result (PyResult ℕ) RunFault → Type 0
TellsLength = Told IsLength of_nothing

abbrev pub TellsLengthOpt : Task → ℕ → State → State → Result (PyResult (Option ℕ)) RunFault → Type 0
TellsLengthOpt = Told IsHint of_nothing

abbrev pub TellsLengthOr : ℕ → Task → ℕ → State → State → Result (PyResult ℕ) RunFault → Type 0
TellsLengthOr n = Told (IsHintOr n) of_nothing

-- no task is asked and nothing changes: the call ends so, unless the machine has failed
abbrev pub Keeps : {T : Type 0} → PyResult T → State → State → Result (PyResult T) RunFault → Type 0
Keeps end old new result = (new ≡ old) × (result ≡ cond old.failed (Err run_fault.Failed) (Ok end))

-- the same task, its value told as some
abbrev pub ToldSome : {T : Type 0} → (T → Answer → Type 0) → (T → List Claim) → Task → ℕ → State → State → Result (PyResult (Option T)) RunFault → Type 0
ToldSome Is of = Told (IsSome Is) (of_option of)

-- the task is asked where the test holds of the world, and what it gives is told as some; else none is told
pub record ToldWhere {T : Type 0} (test : PlainWorld → Bool) (Is : T → Answer → Type 0) (of : T → List Claim) (task : Task) (units : ℕ) (old new : State) (result : Result (PyResult (Option T)) RunFault) : Type 0 where
  pub some : (t : Reading) → Reads t old.world → test (plain t old.world) ≡ true → ToldSome Is of task units old new result
  pub none : (t : Reading) → Reads t old.world → test (plain t old.world) ≡ false → Keeps (Done None) old new result

abbrev pub TellsObjectWhere : (PlainWorld → Bool) → Task → ℕ → State → State → Result (PyResult (Option PyObjectRef)) RunFault → Type 0
TellsObjectWhere test = ToldWhere test IsObject of_node_ref

abbrev pub TellsLengthWhere : (PlainWorld → Bool) → Task → ℕ → State → State → Result (PyResult (Option ℕ)) RunFault → Type 0
TellsLengthWhere test = ToldWhere test IsLength of_nothing

abbrev pub TellsLengthSome : Task → ℕ → State → State → Result (PyResult (Option ℕ)) RunFault → Type 0
TellsLengthSome = ToldSome IsLength of_nothing
