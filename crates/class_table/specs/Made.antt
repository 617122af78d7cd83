-- A class that is made.
use Rattle.class_table.specs.Below.{ℕ, cond, List, [], map, length, Some, PyStrInterned, AreNamesDistinct, slot_count, has, Class, lin, base, solid, place_count, with_class}
use Rattle.std.specs.Prelude.{◌≡◌, ◌∷◌, ◌++◌}
use Rattle.class_table.specs.Stored.{StoredClass, class_of, classes_of}

-- a class as it is made, before its slots are found: what is kept of it is so of the classes with this one more
pub record IsFresh (kept : List StoredClass) (c : Class PyStrInterned) (k : StoredClass) : Type 0 where
  pub class : class_of k ≡ c
  pub attrs : AreNamesDistinct c.attrs
  pub full : length k.slots ≡ slot_count
  pub mro : lin (with_class (classes_of kept) c) c.number ≡ Some k.mro
  pub base : base (with_class (classes_of kept) c) c.number ≡ k.base
  pub solid : solid (with_class (classes_of kept) c) c.number ≡ k.solid
  pub subclasses : k.subclasses ≡ []
  pub places : place_count (with_class (classes_of kept) c) c.number ≡ Some k.places

-- a class is noted as the last direct subclass of each of its bases
abbrev pub noted : List ℕ → ℕ → List StoredClass → List StoredClass
noted bases n kept = map (λ (k : StoredClass). record k { subclasses = k.subclasses ++ cond (has bases k.number) (n ∷ []) [] }) kept
