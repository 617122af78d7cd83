-- The slots: their places, printed names and special names, and how they are read.
use Rattle.py_node.specs.Below.{ℕ, Bool, List, [], map, slice_index_or}
use Rattle.std.specs.Prelude.{◌++◌}
use denote.Enum.Bare.{sameb}
use denote.Enum.Declared.{tag_of}
use Rattle.py_node.specs.contracts.entry.SlotId.{the_type}
use Rattle.py_node.specs.declared.entry.SlotId.{SlotId}
use Rattle.py_node.specs.declared.known.Known.{Known}
use Rattle.py_node.specs.declared.slots.Sort.{Sort}
use Rattle.py_node.specs.declared.slots.Sort.TheVariants.{Nearest}
use Rattle.py_node.specs.declared.slots.Filling.{Filling}
use Rattle.py_node.specs.declared.slots.Filling.TheVariants.{BySpecial}
use Rattle.py_node.specs.declared.slots.TheConstants.{SLOTS, NUMBER_SPECIAL, OTHER_SPECIAL, FILLINGS}
use Rattle.py_node.specs.Tree.{Text}

-- all slots, in the order in which they are printed
unfoldable pub all_slots : List SlotId
all_slots = map (λ r. r.0) SLOTS

-- their printed names
unfoldable pub slot_texts : List Text
slot_texts = map (λ r. r.1.now) SLOTS

-- how they are read
unfoldable pub slot_sorts : List Sort
slot_sorts = map (λ r. r.2) SLOTS

-- the special names of each slot of numbers, and of each other slot
unfoldable pub number_names : List (List Known)
number_names = map (λ r. r.1.now) NUMBER_SPECIAL

unfoldable pub other_names : List (List Known)
other_names = map (λ r. r.1.now) OTHER_SPECIAL

-- the special names of each
unfoldable pub slot_names : List (List Known)
slot_names = map (λ r. r.1.now) NUMBER_SPECIAL ++ map (λ r. r.1.now) OTHER_SPECIAL

-- by which own attributes the built-in classes fill each
unfoldable pub slot_fillings : List Filling
slot_fillings = map (λ r. r.1) FILLINGS

-- how many they are
abbrev pub slot_count : ℕ
slot_count = 73

-- the place of a slot in the order
unfoldable pub place_of : SlotId → ℕ
place_of = tag_of the_type

abbrev pub is_slot : SlotId → SlotId → Bool
is_slot = sameb the_type

-- the name under which a slot is printed
unfoldable pub printed_name : SlotId → Text
printed_name s = slice_index_or slot_texts (place_of s) []

-- the special names that fill a slot of a heap class
unfoldable pub names_of : SlotId → List Known
names_of s = slice_index_or slot_names (place_of s) []

-- number slots and `repr` are a class's own; an entry of the sequence or mapping table is that of the nearest class with such a
-- table; each other slot that of the nearest class which has it
unfoldable pub sort_of : SlotId → Sort
sort_of s = slice_index_or slot_sorts (place_of s) Nearest

-- by which of its own attributes a built-in class fills a slot
unfoldable pub filling_of : SlotId → Filling
filling_of s = slice_index_or slot_fillings (place_of s) BySpecial
