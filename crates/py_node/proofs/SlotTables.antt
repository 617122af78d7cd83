-- The tables of slots have a row for each slot, at its place.
use Rattle.py_node.proofs.Below.{◌∙◌, [], ℕ, Bool, ap, sym, subst, cond, true, false, refl, nat_lt, slice_get, slice_index_or, Some, option_map, lt-ltb, le-ltb, SlotId, NUMBER_SPECIAL, OTHER_SPECIAL, FILLINGS, place_of, all_slots, slot_count, number_names, other_names, slot_names, names_of}
use Rattle.std.proofs.Common.{◌≡◌, ◌<◌, ◌≤◌, ◌++◌, ◌-◌}
use borrow.Author.Tests.{ltb-true}
use Rattle.py_node.specs.declared.entry.SlotId.TheVariants.{Add}

below-test : (s : SlotId) → nat_lt (place_of s) slot_count ≡ true
unfolding place_of
below-test Add = refl
below-test _ = refl

pub below : (s : SlotId) → place_of s < slot_count
below s = ltb-true _ _ (below-test s)

-- the slot stands at its place
pub slot-at_place : (s : SlotId) → slice_get all_slots (place_of s) ≡ Some s
unfolding place_of all_slots
slot-at_place Add = refl
slot-at_place _ = refl

-- and so does the row of its special names
names-in-place : (s : SlotId) → option_map (λ r. r.0) (slice_get (NUMBER_SPECIAL ++ OTHER_SPECIAL) (place_of s)) ≡ Some s
unfolding place_of
names-in-place Add = refl
names-in-place _ = refl

-- the special names of a slot stand in the part of the table that has its place
names-by-part : (s : SlotId) → names_of s ≡ cond (nat_lt (place_of s) 49) (slice_index_or number_names (place_of s) []) (slice_index_or other_names (place_of s - 49) [])
unfolding place_of number_names other_names slot_names names_of
names-by-part Add = refl
names-by-part _ = refl

part-of : (s : SlotId) (p : ℕ) (b : Bool) → p ≡ place_of s → nat_lt p 49 ≡ b → cond b (slice_index_or number_names p []) (slice_index_or other_names (p - 49) []) ≡ names_of s
part-of s p b e t =
    ap (λ b. cond b (slice_index_or number_names p []) (slice_index_or other_names (p - 49) [])) (sym t)
    ∙ ap (λ p. cond (nat_lt p 49) (slice_index_or number_names p []) (slice_index_or other_names (p - 49) [])) e
    ∙ sym (names-by-part s)

pub names_of_number : (s : SlotId) (p : ℕ) → p ≡ place_of s → p < 49 → slice_index_or number_names p [] ≡ names_of s
names_of_number s p e l = part-of s p true e (lt-ltb p 49 l)

pub names_of_other : (s : SlotId) (p n : ℕ) → p ≡ place_of s → n ≡ 49 → n ≤ p → slice_index_or other_names (p - n) [] ≡ names_of s
names_of_other s p n e f l =
    ap (λ n. slice_index_or other_names (p - n) []) f
    ∙ part-of s p false e (le-ltb p 49 (subst (λ n. n ≤ p) f l))

-- and the row of its filling
filling-in-place : (s : SlotId) → option_map (λ r. r.0) (slice_get FILLINGS (place_of s)) ≡ Some s
unfolding place_of
filling-in-place Add = refl
filling-in-place _ = refl
