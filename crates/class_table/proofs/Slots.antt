-- Facts about each slot, by cases.
use Rattle.class_table.proofs.Below.{ℕ, zero, suc, Bool, true, false, map, eqb, ltb, List, [], length, Some, refl, ap, ◌∙◌, sym, arith, slice_get, slice_index_or, the_type, SlotId, Hash, Known, number_of, eqb-true, ltb-true, ne_eqb, is_slot, slot_names, place_of, names_of, all_slots, is_one_of, is_name_of, PyStrInterned, is_same_name, table_keys}
use Rattle.std.proofs.Common.{◌≡◌, ◌+◌, ◌≤◌, ◌&&◌, ◌||◌, ◌∷◌}
use denote.Enum.Bare.{same_true}
use Rattle.py_node.specs.declared.known.Known.TheVariants as known

both : (a b : Bool) → (a && b) ≡ true → (a ≡ true) × (b ≡ true)
both true b e = (refl, e)
both false b e = cc

-- the hash has one name
hash-names : names_of Hash ≡ known.Hash ∷ []
unfolding slot_names place_of names_of
hash-names = refl

pub names-hash : (s : SlotId) → is_slot s Hash ≡ true → names_of s ≡ known.Hash ∷ []
names-hash s e = ap names_of (same_true the_type tt s Hash e) ∙ hash-names

abbrev pub below_all : ℕ → List Known → Bool
below_all n [] = true
below_all n (k ∷ ks) = ltb (number_of k) n && below_all n ks

abbrev rows_below : List (List Known) → Bool
rows_below [] = true
rows_below (r ∷ rows) = below_all 70 r && rows_below rows

all-rows : rows_below slot_names ≡ true
unfolding slot_names number_of
all-rows = refl

row-below : (rows : List (List Known)) (i : ℕ) → rows_below rows ≡ true → below_all 70 (slice_index_or rows i []) ≡ true
row-below [] i h = refl
row-below (r ∷ rows) zero h = (both (below_all 70 r) (rows_below rows) h).0
row-below (r ∷ rows) (suc i) h = row-below rows i (both (below_all 70 r) (rows_below rows) h).1

pub names-below : (s : SlotId) → below_all 70 (names_of s) ≡ true
unfolding names_of
names-below s = row-below slot_names (place_of s) all-rows

abbrev counted : ℕ → List SlotId → Bool
counted n [] = true
counted n (s ∷ ss) = eqb (place_of s) n && counted (suc n) ss

counted-all : counted 0 all_slots ≡ true
unfolding place_of all_slots
counted-all = refl

place-from : (n : ℕ) (ss : List SlotId) (i : ℕ) (s : SlotId) → counted n ss ≡ true → slice_get ss i ≡ Some s → place_of s ≡ n + i
place-from n [] i s h e = cc
place-from n (u ∷ ss) zero s h e =
    let p = both (eqb (place_of u) n) (counted (suc n) ss) h in
    let q : place_of u ≡ n = eqb-true (place_of u) n p.0 in
    let same : u ≡ s = cc in
    ap place_of (sym same) ∙ q ∙ omega arith
place-from n (u ∷ ss) (suc i) s h e =
    let p = both (eqb (place_of u) n) (counted (suc n) ss) h in
    place-from (suc n) ss i s p.1 e ∙ omega arith

-- the slot at a place
pub place-at : (i : ℕ) (s : SlotId) → slice_get all_slots i ≡ Some s → place_of s ≡ i
place-at i s e = place-from 0 all_slots i s counted-all e ∙ omega arith

pub length-all : length all_slots ≡ 73
unfolding all_slots
length-all = refl

none-of : (ks : List Known) (n : PyStrInterned) → 70 ≤ n.0 → below_all 70 ks ≡ true → is_one_of is_same_name (map table_keys.special ks) n ≡ false
none-of [] n l h = refl
none-of (k ∷ ks) n l h =
    let p = both (ltb (number_of k) 70) (below_all 70 ks) h in
    let b = ltb-true (number_of k) 70 p.0 in
    ap (λ t. t || is_one_of is_same_name (map table_keys.special ks) n) (ne_eqb n.0 (number_of k) (λ e. omega arith)) ∙ none-of ks n l p.1

-- a name past the special ones is none of a slot's
pub no_special : (s : SlotId) (n : PyStrInterned) → 70 ≤ n.0 → is_name_of table_keys s n ≡ false
no_special s n l = none-of (names_of s) n l (names-below s)
