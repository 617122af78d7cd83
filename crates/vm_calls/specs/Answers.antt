-- What a call tells of a task's answer: of which kind that must be, and as which value it is told.
use Rattle.vm_calls.specs.Below.{ℕ, ℤ, pos, negsuc, Bool, not, Option, Some, None, option_map, IsTrue, Vec, PyObjectRef, Answer, Value, Number, Truth, Maybe, Method, Objects, PyMethod, Task, truth, Reading, task_of, answer_of}
use Rattle.std.specs.Prelude.{◌≡◌, ◌⊎◌}
use Rattle.vm_calls.specs.AnswerKinds.Kinds.{Kind, is_of, IsOfKind}

-- an answer of a kind
abbrev pub Of : Kind → Answer → Type 0
Of k a = IsTrue (is_of k (answer_of a))

-- each answer of the task's kind is such
abbrev pub GivesJust : (Answer → Type 0) → Task → Type 0
GivesJust Fits task = (t : Reading) (a : Answer) → IsOfKind (task_of t task) (answer_of a) → Fits a

-- an answer is told as it is
abbrev pub IsAnswer : Answer → Answer → Type 0
IsAnswer x a = a ≡ x

abbrev pub IsObject : PyObjectRef → Answer → Type 0
IsObject r a = a ≡ Value r

-- an object, or that there is none
abbrev pub IsMaybe : Option PyObjectRef → Answer → Type 0
IsMaybe o a = a ≡ Maybe o

abbrev pub AreObjects : Vec PyObjectRef → Answer → Type 0
AreObjects rs a = a ≡ Objects rs

-- a method with its target, or the attribute
abbrev pub IsMethod : PyMethod → Answer → Type 0
IsMethod m a = a ≡ Method m

-- that it is done, whatever was given by what did it
abbrev pub IsDone : Unit {0} → Answer → Type 0
IsDone x a = Unit {0}

-- a truth value, and its opposite
abbrev pub IsTruth : Bool → Answer → Type 0
IsTruth b a = a ≡ Truth b

abbrev pub IsOpposite : Bool → Answer → Type 0
IsOpposite b a = (t : Bool) × (a ≡ Truth t) × (b ≡ not t)

-- True or False, as an object, or that there is none
abbrev pub IsOrder : Option Bool → Answer → Type 0
IsOrder o a = a ≡ Maybe (option_map truth o)

abbrev pub IsNumber : ℤ → Answer → Type 0
IsNumber z a = a ≡ Number z

-- a number as a length, which no number below 0 is
abbrev pub length_of : ℤ → ℕ
length_of (pos n) = n
length_of (negsuc n) = 0

abbrev pub IsLength : ℕ → Answer → Type 0
IsLength n a = (z : ℤ) × (a ≡ Number z) × (n ≡ length_of z)

-- a length, or that there is none, or what stands for it then
abbrev pub IsHint : Option ℕ → Answer → Type 0
IsHint (Some n) a = IsLength n a
IsHint None a = a ≡ Maybe None

abbrev pub IsHintOr : ℕ → ℕ → Answer → Type 0
IsHintOr other n a = IsLength n a ⊎ ((a ≡ Maybe None) × (n ≡ other))

-- the same, told as some
abbrev pub IsSome : {T : Type 0} → (T → Answer → Type 0) → Option T → Answer → Type 0
IsSome Is (Some x) a = Is x a
IsSome Is None a = ⊥
