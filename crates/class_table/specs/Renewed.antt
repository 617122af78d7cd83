-- What other bases of a class make of what is kept of some classes.
use Rattle.class_table.specs.Below.{ℕ, List, length, Some, slice_get, PyStrInterned, Includes, Classes, lin, subclasses, base, place_count, with_bases}
use Rattle.std.specs.Prelude.{◌≡◌}
use Rattle.class_table.specs.Keys.{numbers, number_of}
use Rattle.class_table.specs.Stored.{StoredClass, classes_of}
use Rattle.class_table.specs.declared.renew.Renewed.{Renewed}

-- what is so of a class in the classes with the other bases
pub record IsRenewed (t : Classes PyStrInterned) (x : ℕ) (r : Renewed) : Type 0 where
  pub mro : lin t x ≡ Some (numbers r.mro.items)
  pub base : base t x ≡ number_of r.base
  pub subclasses : numbers r.subclasses.items ≡ subclasses t x
  pub places : place_count t x ≡ Some r.places

-- it is so of the class at each place, in order
pub record AreRenewed (kept : List StoredClass) (c : ℕ) (bs places : List ℕ) (renewed : List Renewed) : Type 0 where
  pub count : length renewed ≡ length places
  pub at : (j i : ℕ) (k : StoredClass) (r : Renewed) → slice_get places j ≡ Some i → slice_get kept i ≡ Some k → slice_get renewed j ≡ Some r → IsRenewed (with_bases (classes_of kept) c bs) k.number r

-- a class with it
abbrev pub with_renewed : Renewed → StoredClass → StoredClass
with_renewed r k = record k { mro = numbers r.mro.items; base = number_of r.base; subclasses = numbers r.subclasses.items; places = r.places }

-- the same but for the linearisation
abbrev pub renewed_but_line : Renewed → StoredClass → StoredClass
renewed_but_line r k = record k { base = number_of r.base; subclasses = numbers r.subclasses.items; places = r.places }

-- the class at each place got its own, and all others stay
pub record AreSwapped (places : List ℕ) (renewed : List Renewed) (old new : List StoredClass) : Type 0 where
  pub count : length new ≡ length old
  pub at : (j i : ℕ) (k : StoredClass) (r : Renewed) → slice_get places j ≡ Some i → slice_get old i ≡ Some k → slice_get renewed j ≡ Some r → slice_get new i ≡ Some (with_renewed r k)
  pub away : (i : ℕ) (k : StoredClass) → (Includes places i → ⊥) → slice_get old i ≡ Some k → slice_get new i ≡ Some k
