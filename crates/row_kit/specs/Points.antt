-- What the contracts of rows say, of any group of rows: a row from some point on, and what is done there.
use Rattle.row_kit.specs.Below.{[], Result, Raised as Fault, PlainWorld, Ended, Told, Said, Ends, Answered, Row, Reading, Reads, plain, task_of, ended_of}
use Rattle.plain_machine.specs.Plain.{Asks}
use Rattle.std.specs.Prelude.{◌≡◌, ◌++◌, ◌∷◌}
use Rattle.py_node.specs.declared.task.Answer.{Answer}
use Rattle.py_node.specs.declared.task.Step.{Step}
use Rattle.py_node.specs.declared.task.Step.TheVariants.{Ask, End}
use Rattle.class_world.specs.declared.world.World.{World}

-- a row from some point on, in whichever world it goes on
abbrev pub Point : Type 0
Point = PlainWorld → Row

-- the code's step is what is said at a point of a row. What it keeps stands for what is done there with the answer
abbrev pub Steps : {K : Type 0} → (K → Ended → Point) → Reading → Point → Said → Step K → World → Type 0
Steps stands t row (Asks w learnt other) (Ask asked kept) new =
    (task_of t asked ≡ other) × (plain t new ≡ w) × ((u : PlainWorld) (r : Ended) (more : Told) → row u (learnt ++ Answered r ∷ more) ≡ stands kept r u more)
Steps stands t row (Asks w learnt other) (End r) new = ⊥
Steps stands t row (Ends w r) (Ask asked kept) new = ⊥
Steps stands t row (Ends w r) (End s) new = (ended_of s ≡ r) × (plain t new ≡ w)

-- a group of rows: the row of a task, and what is done with the answer where something is kept
pub record Group (T K : Type 0) : Type 0 where
  pub row : Reading → T → Point
  pub stands : Reading → K → Ended → Point

-- the step from a point of a row, however the numbers are read
abbrev pub Goes : {T K : Type 0} → Group T K → (Reading → Point) → World → World → Step K → Type 0
Goes g row old new step =
    (t : Reading) → Reads t new → Reads t old × Steps (g.stands t) t (row t) (row t (plain t old) []) step new

-- the same, where the row is said to do this
abbrev pub Follows : {T K : Type 0} → Group T K → (Reading → Point) → (Reading → PlainWorld → Said) → World → World → Step K → Type 0
Follows g row said old new step =
    (t : Reading) → Reads t new → Reads t old × Steps (g.stands t) t (row t) (said t (plain t old)) step new

-- the first step of a task, and that which is said to be this
abbrev pub Begins : {T K : Type 0} → Group T K → T → World → World → Step K → Type 0
Begins g task = Goes g (λ t. g.row t task)

abbrev pub Starts : {T K : Type 0} → Group T K → T → (Reading → PlainWorld → Said) → World → World → Step K → Type 0
Starts g task = Follows g (λ t. g.row t task)

-- the step at an answer, and that which is said to be this
abbrev pub Resumes : {T K : Type 0} → Group T K → K → Result Answer Fault → World → World → Step K → Type 0
Resumes g kept r = Goes g (λ t. g.stands t kept (ended_of r))

abbrev pub Continues : {T K : Type 0} → Group T K → K → Result Answer Fault → (Reading → PlainWorld → Said) → World → World → Step K → Type 0
Continues g kept r = Follows g (λ t. g.stands t kept (ended_of r))

-- what is kept, among all that is kept
abbrev pub among : {K A : Type 0} → (K → A) → Step K → Step A
among for (Ask task kept) = Ask task (for kept)
among for (End r) = End r
