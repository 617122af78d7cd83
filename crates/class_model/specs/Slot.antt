-- What a class has in a slot, and what is read there.
use Rattle.class_model.specs.Below.{ℕ, Bool, true, false, cond, not, eqb, List, [], map, Option, Some, None, option_and_then, is_some, PyObjectRef, SlotId, Hash, New, SlotEntry, Wrapper, Unhashable, the_type as sort_type, Known, Sort, ByItself, BySequence, ByMapping, Nearest, fixed_none, is_slot, names_of, all_slots, sort_of, is_same_entry}
use Rattle.std.specs.Prelude.{◌&&◌, ◌||◌, ◌∷◌}
use denote.Enum.Bare.{sameb}
use Rattle.class_model.specs.Class.{Class, Classes, class_at, is_heap, lin, is_sub, found, own_of, first_along, along}

-- how classes name their attributes: whether two keys are one, and the key of each name that every world knows
pub record Keys (K : Type 0) : Type 0 where
  pub same : K → K → Bool
  pub special : Known → K

-- what stands in the slots of each built-in class, by its number: a native, or that its objects have no hash
abbrev pub Natives : Type 0
Natives = ℕ → SlotId → Option SlotEntry

abbrev pub is_one_of : {K : Type 0} → (K → K → Bool) → List K → K → Bool
is_one_of same [] k = false
is_one_of same (n ∷ ns) k = same k n || is_one_of same ns k

-- whether a key is a special name of the slot
abbrev pub is_name_of : {K : Type 0} → Keys K → SlotId → K → Bool
is_name_of keys s k = is_one_of keys.same (map keys.special (names_of s)) k

-- None, as an object
abbrev pub is_none : PyObjectRef → Bool
is_none r = eqb r.0 fixed_none

-- the wrapper of a slot, where one of its names was found. `__hash__` that is None forbids the hash
abbrev pub wrapped : SlotId → Option PyObjectRef → Option SlotEntry
wrapped s None = None
wrapped s (Some v) = Some (cond (is_slot s Hash && is_none v) Unhashable (Wrapper s))

-- of a heap class: the names of the slot along its linearisation, but `__new__` in the class alone
abbrev pub heap_entry : {K : Type 0} → Keys K → Classes K → ℕ → List ℕ → SlotId → Option SlotEntry
heap_entry keys t c line s =
    wrapped s (cond (is_slot s New) (own_of (is_name_of keys s) (class_at t c)) (along (is_name_of keys s) t line))

abbrev pub is_heap_at : {K : Type 0} → Option (Class K) → Bool
is_heap_at None = false
is_heap_at (Some k) = is_heap k

-- what a class has itself: a heap class by the names along its linearisation, a built-in class what stands in its row
abbrev pub given_entry : {K : Type 0} → Keys K → Natives → Classes K → SlotId → ℕ → Option SlotEntry
given_entry keys natives t s c =
    cond (is_heap_at (class_at t c)) (option_and_then (λ line. heap_entry keys t c line s) (lin t c)) (natives c s)

-- whether two slots are read alike
abbrev pub is_sort : Sort → Sort → Bool
is_sort = sameb sort_type

abbrev pub is_by_itself : Sort → Bool
is_by_itself sort = is_sort sort ByItself

-- the own entry of a slot. Where a built-in or static class lacks a number slot or `repr`, it is that of the nearest class along its linearisation
abbrev pub entry : {K : Type 0} → Keys K → Natives → Classes K → ℕ → SlotId → Option SlotEntry
entry keys natives t c s =
    cond (not (is_heap_at (class_at t c)) && is_by_itself (sort_of s))
    (option_and_then (first_along (given_entry keys natives t s)) (lin t c))
    (given_entry keys natives t s c)

-- all own entries of a class, in the slots' order
abbrev pub entries : {K : Type 0} → Keys K → Natives → Classes K → ℕ → List (Option SlotEntry)
entries keys natives t c = map (entry keys natives t c) all_slots

-- whether a class has any slot of a table
abbrev pub has_table : (SlotId → Option SlotEntry) → Sort → List SlotId → Bool
has_table own sort [] = false
has_table own sort (s ∷ ss) = (is_sort (sort_of s) sort && is_some (own s)) || has_table own sort ss

-- the first class along a line that has a table
abbrev pub first_with : (ℕ → Bool) → List ℕ → Option ℕ
first_with test [] = None
first_with test (c ∷ cs) = cond (test c) (Some c) (first_with test cs)

-- how a slot is read, given the own entries of each class and the linearisation
abbrev pub read_along : (ℕ → SlotId → Option SlotEntry) → Sort → ℕ → List ℕ → SlotId → Option SlotEntry
read_along own ByItself c line s = own c s
read_along own BySequence c line s = option_and_then (λ d. own d s) (first_with (λ d. has_table (own d) BySequence all_slots) line)
read_along own ByMapping c line s = option_and_then (λ d. own d s) (first_with (λ d. has_table (own d) ByMapping all_slots) line)
read_along own Nearest c line s = first_along (λ d. own d s) line

-- the slot as it is read for a class
abbrev pub slot : {K : Type 0} → Keys K → Natives → Classes K → ℕ → SlotId → Option SlotEntry
slot keys natives t c s = option_and_then (λ line. read_along (entry keys natives t) (sort_of s) c line s) (lin t c)

-- whether a class's own reflected method goes before the left operand's: what it finds is another node than what the left operand's class finds. A name that this one lacks counts as another
abbrev pub is_other_node : Option PyObjectRef → Option PyObjectRef → Bool
is_other_node None r = true
is_other_node (Some l) None = true
is_other_node (Some l) (Some r) = not (eqb l.0 r.0)

abbrev pub is_overridden : {K : Type 0} → Keys K → Classes K → List Known → ℕ → ℕ → Bool
is_overridden keys t [] c d = false
is_overridden keys t (n ∷ ns) c d = is_other_node (found keys.same t c (keys.special n)) (found keys.same t d (keys.special n))

-- whether the right slot of the second operand's class is tried first: the class derives from that of the first operand, and has another method for it
abbrev pub goes_first : {K : Type 0} → Keys K → Classes K → SlotId → ℕ → ℕ → Bool
goes_first keys t right c d = is_sub t d c && is_overridden keys t (names_of right) c d

-- the candidates of an operator, from the left slot of the first operand's class and the right slot of the second's: the right one is left out where the classes or the entries are the same
abbrev pub without_same : Option SlotEntry → Option SlotEntry → Option SlotEntry
without_same (Some l) (Some r) = cond (is_same_entry l r) None (Some r)
without_same l r = r

abbrev pub in_turn : Bool → Option SlotEntry → Option SlotEntry → List SlotEntry
in_turn first None None = []
in_turn first (Some l) None = l ∷ []
in_turn first None (Some r) = r ∷ []
in_turn first (Some l) (Some r) = cond first (r ∷ l ∷ []) (l ∷ r ∷ [])

abbrev pub candidates_of : {K : Type 0} → Keys K → Natives → Classes K → SlotId → SlotId → ℕ → ℕ → List SlotEntry
candidates_of keys natives t left right c d =
    let l = slot keys natives t c left in
    in_turn (goes_first keys t right c d) l (cond (eqb c d) None (without_same l (slot keys natives t d right)))
