-- What is written for the classes that scripts made.
use Rattle.plain_machine.specs.Below.{ℕ, cond, List, [], codes, map, Option, Some, None, option_map, flat_map, SlotId, SlotEntry, Native, Wrapper, Unhashable, printed_name, all_slots, Text, class_at as class_numbered, Classes, lin, short_name, numbers_of, Keys, is_heap_at, entry, natives_of}
use Rattle.std.specs.Prelude.{◌∷◌}
use Rattle.plain_machine.specs.ClassLines.{class_lines}
use Rattle.plain_machine.specs.Plain.{PlainWorld}
use Rattle.plain_machine.specs.World.{text_keys, or_empty}

-- the word for a filled slot: its printed name, and `hash!` where it forbids the hash
abbrev pub entry_word : SlotId → SlotEntry → Text
entry_word s (Native n) = printed_name s
entry_word s (Wrapper u) = printed_name s
entry_word s Unhashable = codes "hash!"

abbrev pub slot_words : SlotId → Option SlotEntry → List Text
slot_words s None = []
slot_words s (Some e) = entry_word s e ∷ []

-- the words for those of some slots that the class itself has, in order
abbrev pub own_words : {K : Type 0} → Keys K → Classes K → ℕ → List SlotId → List Text
own_words keys t c slots = flat_map (λ s. slot_words s (entry keys natives_of t c s)) slots

abbrev pub name_at : {K : Type 0} → Classes K → ℕ → Text
name_at t c = or_empty (option_map short_name (class_numbered t c))

-- the whole name, with the parts before
abbrev pub whole_name_at : {K : Type 0} → Classes K → ℕ → Text
whole_name_at t c = or_empty (option_map (λ k. k.name) (class_numbered t c))

abbrev pub names_along : {K : Type 0} → Classes K → Option (List ℕ) → List Text
names_along t None = []
names_along t (Some line) = map (name_at t) line

-- both lines of a class: the names along its linearisation, and its own filled slots
abbrev pub class_text : {K : Type 0} → Keys K → Classes K → ℕ → Text
class_text keys t c = class_lines (name_at t c) (names_along t (lin t c)) (own_words keys t c all_slots)

-- a class that no script made has no lines
abbrev pub heap_text : {K : Type 0} → Keys K → Classes K → ℕ → Text
heap_text keys t c = cond (is_heap_at (class_numbered t c)) (class_text keys t c) []

-- the lines of each class that a script made, by number
unfoldable pub classes_text : PlainWorld → Text
classes_text w = flat_map (heap_text text_keys w.classes) (numbers_of w.classes)
