-- A log whose changes were made in order, and the classes to which they led.
use Rattle.class_table.specs.Below.{ℕ, Bool, true, false, List, [], map, Option, None, bit_and, PyObjectRef, PyStrInterned, heap_flags, heap_type, Text, Class, Classes, any_has_dict, slots_bring}
use Rattle.std.specs.Prelude.{◌≡◌, ◌==◌, ◌||◌, ◌∷◌}
use Rattle.class_table.specs.Keys.{table_keys}
use Rattle.class_table.specs.OneBase.{says_so, static_flags}
use Rattle.class_table.specs.ClassLog.Change.{Change, Make}
use Rattle.class_table.specs.ClassLog.Shown.{shown, first_classes}
use Rattle.class_table.specs.ClassLog.Refused.{AreMade}

-- a class without its name
abbrev pub unnamed : {K : Type 0} → Class K → Class K
unnamed k = record k { name = [] }

-- the same classes but for their names: as many and in order, each with its number, its bases, its own attributes, its members, its flags, and what it brings
abbrev pub AreSameButForNames : {K : Type 0} → Classes K → Classes K → Type 0
AreSameButForNames t u = map unnamed t ≡ map unnamed u

-- each change was made in its turn, to the classes of a new world; and what they show are these classes but for their names, of which no change tells
pub record IsLogged (log : List Change) (t : Classes PyStrInterned) : Type 0 where
  pub made : AreMade first_classes log
  pub same : AreSameButForNames (shown log) t

-- a class that a script makes, as a change
abbrev pub made_by_script : Classes PyStrInterned → ℕ → Text → List ℕ → List (PyStrInterned × PyObjectRef) → Option (List PyStrInterned) → Change
made_by_script t number name bases attrs slots =
    Make (record { class = number; name = name; bases = bases; attrs = attrs; slots = slots; flags = heap_flags (slots_bring table_keys slots || any_has_dict t bases) })

-- a class with one base and no members, as a change with these flags
abbrev pub made_single : ℕ → Text → ℕ → List (PyStrInterned × PyObjectRef) → ℕ → Change
made_single number name base attrs given =
    Make (record { class = number; name = name; bases = base ∷ []; attrs = attrs; slots = None; flags = given })

-- what the change's flags make of those of the class, and of whether it brings a dict: of a script's class, as a script makes it, or of a static one, by whether the base gives a dict
abbrev pub IsGivenTo : Bool → ℕ → ℕ → Bool → Bool → Type 0
IsGivenTo true given flags brings dict = (given ≡ heap_flags true) × (flags ≡ heap_flags true) × (brings ≡ true)
IsGivenTo false given flags brings dict = (flags ≡ static_flags given dict) × (brings ≡ says_so given)

abbrev pub IsGiven : ℕ → ℕ → Bool → Bool → Type 0
IsGiven given flags brings dict = IsGivenTo (bit_and given heap_type == heap_type) given flags brings dict
