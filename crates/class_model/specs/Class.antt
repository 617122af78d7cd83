-- Classes, and how an attribute of one is found.
use Rattle.class_model.specs.Below.{ℕ, Bool, false, cond, eqb, List, [], map, length, Option, Some, None, is_some, option_map, option_and_then, bit_and, PyObjectRef, value_of, heap_type, Text}
use Rattle.std.specs.Prelude.{◌≡◌, ◌==◌, ◌∷◌}
use Rattle.class_model.specs.Order.{has, linear, IsLeastOrder}

-- a class: its name, the number of the object that stands for it, its bases, its own attributes in order, the names of its members, its flags, and whether it brings its objects a dict itself. A class is known by its number, and so are its bases
pub record Class (K : Type 0) : Type 0 where
  pub name : Text
  pub number : ℕ
  pub bases : List ℕ
  pub attrs : List (K × PyObjectRef)
  pub members : List K
  pub flags : ℕ
  pub brings : Bool

abbrev pub Classes : Type 0 → Type 0
Classes K = List (Class K)

-- the class with a number
abbrev pub class_at : {K : Type 0} → Classes K → ℕ → Option (Class K)
class_at [] c = None
class_at (k ∷ t) c = cond (eqb k.number c) (Some k) (class_at t c)

-- whether a number is that of a class
abbrev pub is_class : {K : Type 0} → Classes K → ℕ → Bool
is_class t c = is_some (class_at t c)

-- whether a class has a flag
abbrev pub has_flag : {K : Type 0} → ℕ → Class K → Bool
has_flag flag k = bit_and k.flags flag == flag

-- made by a script, and not built in
abbrev pub is_heap : {K : Type 0} → Class K → Bool
is_heap = has_flag heap_type

abbrev pub bases_of : {K : Type 0} → Classes K → ℕ → Option (List ℕ)
bases_of t c = option_map (λ k. k.bases) (class_at t c)

-- the linearisation of a class. There is none where a base is missing, where bases go round, or where no order exists
abbrev pub lin : {K : Type 0} → Classes K → ℕ → Option (List ℕ)
lin t c = linear (bases_of t) (length t) c

-- the linearisation in words: of all orders that keep the class's bases and their linearisations, it has the least list of ranks
pub record IsLeastLine {K : Type 0} (t : Classes K) (c : ℕ) (line : List ℕ) : Type 0 where
  pub bases : List ℕ
  pub lines : List (List ℕ)
  pub of_class : bases_of t c ≡ Some bases
  pub of_bases : map (lin t) bases ≡ map Some lines
  pub least : IsLeastOrder c bases lines line

-- whether a class is another one or has it along its linearisation
abbrev pub is_along : ℕ → Option (List ℕ) → Bool
is_along d None = false
is_along d (Some line) = has line d

abbrev pub is_sub : {K : Type 0} → Classes K → ℕ → ℕ → Bool
is_sub t c d = is_along d (lin t c)

-- a class's own value of the first name that passes a test
abbrev pub own_of : {K : Type 0} → (K → Bool) → Option (Class K) → Option PyObjectRef
own_of test None = None
own_of test (Some k) = value_of test k.attrs

abbrev pub or_else : {V : Type 0} → Option V → Option V → Option V
or_else None other = other
or_else (Some v) other = Some v

-- the first of what the classes along a line have
abbrev pub first_along : {V : Type 0} → (ℕ → Option V) → List ℕ → Option V
first_along f [] = None
first_along f (c ∷ cs) = or_else (f c) (first_along f cs)

abbrev pub along : {K : Type 0} → (K → Bool) → Classes K → List ℕ → Option PyObjectRef
along test t line = first_along (λ c. own_of test (class_at t c)) line

abbrev pub found_by : {K : Type 0} → (K → Bool) → Classes K → ℕ → Option PyObjectRef
found_by test t c = option_and_then (along test t) (lin t c)

-- the value of a name in the first class along the linearisation that has it itself
abbrev pub found : {K : Type 0} → (K → K → Bool) → Classes K → ℕ → K → Option PyObjectRef
found same t c n = found_by (λ k. same k n) t c

-- a list past its first
abbrev pub past_first : List ℕ → List ℕ
past_first [] = []
past_first (c ∷ cs) = cs

-- the same past the class itself
abbrev pub found_past : {K : Type 0} → (K → K → Bool) → Classes K → ℕ → K → Option PyObjectRef
found_past same t c n = option_and_then (λ line. along (λ k. same k n) t (past_first line)) (lin t c)

-- the classes that have it among their bases, in order
abbrev pub subclasses : {K : Type 0} → Classes K → ℕ → List ℕ
subclasses [] c = []
subclasses (k ∷ ks) c = cond (has k.bases c) (k.number ∷ subclasses ks c) (subclasses ks c)

-- the same classes, under other keys
abbrev pub rekeyed : {K L : Type 0} → (K → L) → Class K → Class L
rekeyed f k = record { name = k.name; number = k.number; bases = k.bases; attrs = map (λ a. (f a.0, a.1)) k.attrs; members = map f k.members; flags = k.flags; brings = k.brings }

abbrev pub renamed : {K L : Type 0} → (K → L) → Classes K → Classes L
renamed f t = map (rekeyed f) t
