-- The class and all that derive from it, and where they are kept.
use Rattle.class_table.specs.Below.{ℕ, true, List, filter, length, Some, slice_get, sum_by, has, Includes, Distinct, Classes, is_sub, numbers_of}
use Rattle.std.specs.Prelude.{◌≡◌, ◌<◌, ◌≤◌, ◌⊎◌}
use Rattle.class_table.specs.Stored.{StoredClass, number_at}
use Rattle.class_table.specs.declared.descendants.Ranked.{Ranked}

-- the class and all that derive from it
abbrev pub descendants : {K : Type 0} → Classes K → ℕ → List ℕ
descendants t c = filter (λ d. is_sub t d c) (numbers_of t)

-- the class at a place is the class, or derives from it
pub record Descends (kept : List StoredClass) (c i : ℕ) : Type 0 where
  pub class : StoredClass
  pub at : slice_get kept i ≡ Some class
  pub derives : has class.mro c ≡ true

-- the places of the class and of all that derive from it, each once
pub record AreDescendants (kept : List StoredClass) (c : ℕ) (places : List ℕ) : Type 0 where
  pub distinct : Distinct places
  pub within : (i : ℕ) → Includes places i → Descends kept c i
  pub all : (i : ℕ) (k : StoredClass) → slice_get kept i ≡ Some k → has k.mro c ≡ true → Includes places i

-- the class at a place is among some
abbrev pub IsPlaceOf : List StoredClass → List ℕ → ℕ → Type 0
IsPlaceOf kept classes i = (n : ℕ) × (Includes classes n) × (number_at kept i ≡ Some n)

-- the places of some classes were added to others, which stay where they are
pub record AreAdded (kept : List StoredClass) (classes old new : List ℕ) : Type 0 where
  pub stay : (j i : ℕ) → slice_get old j ≡ Some i → slice_get new j ≡ Some i
  pub only : (i : ℕ) → Includes new i → Includes old i ⊎ IsPlaceOf kept classes i
  pub all : (i n : ℕ) → Includes classes n → number_at kept i ≡ Some n → Includes new i

-- behind the first of some places stand those of their direct subclasses too
abbrev pub AreFollowed : List StoredClass → ℕ → List ℕ → Type 0
AreFollowed kept n places = (j i q : ℕ) (k m : StoredClass) → j < n → slice_get places j ≡ Some i → slice_get kept i ≡ Some k → slice_get kept q ≡ Some m → Includes m.bases k.number → Includes places q

-- places, and how long the linearisations of the classes there are
pub record AreMeasured (kept : List StoredClass) (places : List ℕ) (ranked : List Ranked) : Type 0 where
  pub count : length ranked ≡ length places
  pub at : (j : ℕ) (r : Ranked) → slice_get ranked j ≡ Some r → (slice_get places j ≡ Some r.place) × ((k : StoredClass) → slice_get kept r.place ≡ Some k → r.length ≡ length k.mro)

-- a place of the class or of one that derives from it
pub record IsRanked (kept : List StoredClass) (c : ℕ) (r : Ranked) : Type 0 where
  pub class : StoredClass
  pub at : slice_get kept r.place ≡ Some class
  pub derives : has class.mro c ≡ true
  pub length : r.length ≡ length class.mro

-- a place stands at an index
pub record StandsAt (ranked : List Ranked) (i : ℕ) : Type 0 where
  pub index : ℕ
  pub one : Ranked
  pub at : slice_get ranked index ≡ Some one
  pub place : one.place ≡ i

-- the class and all that derive from it by the lengths of their linearisations: so each comes after those of its bases that are among them
pub record AreRanked (kept : List StoredClass) (c : ℕ) (ranked : List Ranked) : Type 0 where
  pub within : (j : ℕ) (r : Ranked) → slice_get ranked j ≡ Some r → IsRanked kept c r
  pub all : (i : ℕ) (k : StoredClass) → slice_get kept i ≡ Some k → has k.mro c ≡ true → StandsAt ranked i
  pub rises : (i j : ℕ) (a b : Ranked) → i ≤ j → slice_get ranked i ≡ Some a → slice_get ranked j ≡ Some b → a.length ≤ b.length
  -- each stands there once
  pub places : List ℕ
  pub found : AreDescendants kept c places
  pub sums : (f : ℕ → ℕ) → sum_by (λ (r : Ranked). f r.place) ranked ≡ sum_by f places
