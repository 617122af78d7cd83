-- The class that is to be made.
use Rattle.class_table.specs.Below.{ℕ, List, [], Option, Some, None, string_bytes, PyTypeRef, PyStrInterned, Class, Classes, best_of}
use Rattle.std.specs.Prelude.{◌≡◌, ◌∷◌}
use Rattle.class_table.specs.Keys.{numbers}
use Rattle.class_table.specs.Refused.{AreThere}
use Rattle.class_table.specs.declared.stored.NewClass.{NewClass}

-- the bases are there. Only `object` has none
abbrev pub IsBelow : Classes PyStrInterned → ℕ → List ℕ → Type 0
IsBelow t n [] = n ≡ 0
IsBelow t n (b ∷ bs) = AreThere t (b ∷ bs)

-- the best of some bases. Where there are none, there is none
abbrev pub IsBest : Classes PyStrInterned → List ℕ → Option PyTypeRef → Type 0
IsBest t [] None = Unit {0}
IsBest t [] (Some d) = ⊥
IsBest t (b ∷ bs) None = ⊥
IsBest t (b ∷ bs) (Some d) = best_of t (b ∷ bs) ≡ Some d.0

-- the class that it stands for
abbrev pub class_of_new : NewClass → Class PyStrInterned
class_of_new n = record { name = string_bytes n.name; number = n.number.0; bases = numbers n.bases.items; attrs = n.attrs; members = n.members.items; flags = n.flags.0; brings = n.brings }
