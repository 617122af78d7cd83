-- Solid classes, the best base of a class, and its layout.
use Rattle.class_model.specs.Below.{ℕ, zero, suc, Bool, true, false, cond, eqb, not, nat_lt, List, [], map, length, Option, Some, None, option_map, option_and_then, built_in_count}
use Rattle.std.specs.Prelude.{◌+◌, ◌-◌, ◌&&◌, ◌||◌, ◌∷◌, ◌++◌}
use Rattle.class_model.specs.Class.{Class, Classes, class_at, is_along, is_sub, lin, bases_of}

-- how many classes are built in: they have the first numbers
abbrev pub built_ins : ℕ
built_ins = built_in_count

abbrev pub is_empty : {A : Type 0} → List A → Bool
is_empty [] = true
is_empty (x ∷ xs) = false

abbrev pub has_members : {K : Type 0} → Option (Class K) → Bool
has_members None = false
has_members (Some k) = not (is_empty k.members)

-- a built-in class is solid, and so is a class with members of its own
abbrev pub is_solid : {K : Type 0} → Classes K → ℕ → Bool
is_solid t c = nat_lt c built_ins || has_members (class_at t c)

-- whether a class that is there derives from each of those, where all are there
abbrev pub derives_all : {K : Type 0} → Classes K → Option ℕ → List (Option ℕ) → Bool
derives_all t None ds = false
derives_all t (Some c) [] = true
derives_all t (Some c) (None ∷ ds) = false
derives_all t (Some c) (Some d ∷ ds) = is_sub t c d && derives_all t (Some c) ds

-- the first base whose solid class derives from every base's solid class
abbrev pub first_best : {K : Type 0} → Classes K → (ℕ → Option ℕ) → List ℕ → List ℕ → Option ℕ
first_best t solid all [] = None
first_best t solid all (b ∷ bs) = cond (derives_all t (solid b) (map solid all)) (Some b) (first_best t solid all bs)

-- the nearest solid class, for a class whose bases go less than n deep
unfoldable pub solid_within : {K : Type 0} → Classes K → ℕ → ℕ → Option ℕ
solid_within t zero c = None
solid_within t (suc n) c =
    cond (is_solid t c) (Some c) (option_and_then (λ bs. option_and_then (solid_within t n) (first_best t (solid_within t n) bs bs)) (bases_of t c))

-- the solid class of a class: itself, or that of its best base
abbrev pub solid : {K : Type 0} → Classes K → ℕ → Option ℕ
solid t c = solid_within t (length t) c

-- the best of some bases
abbrev pub best_of : {K : Type 0} → Classes K → List ℕ → Option ℕ
best_of t bs = first_best t (solid t) bs bs

-- the best base of a class
abbrev pub base : {K : Type 0} → Classes K → ℕ → Option ℕ
base t c = option_and_then (best_of t) (bases_of t c)

-- the solid classes along the linearisation, from its end
abbrev pub layout_along : {K : Type 0} → Classes K → List ℕ → List ℕ
layout_along t [] = []
layout_along t (c ∷ cs) = layout_along t cs ++ cond (is_solid t c) (c ∷ []) []

abbrev pub layout : {K : Type 0} → Classes K → ℕ → Option (List ℕ)
layout t c = option_and_then (λ line. Some (layout_along t line)) (lin t c)

abbrev pub member_count : {K : Type 0} → Option (Class K) → ℕ
member_count None = 0
member_count (Some k) = length k.members

-- a place of a class: a solid class of its layout, and an index below the number of its member names
abbrev pub is_place : {K : Type 0} → Classes K → ℕ → ℕ → ℕ → Bool
is_place t c d i = is_along d (layout t c) && nat_lt i (member_count (class_at t d))

-- the members of some classes, added up
abbrev pub members_in : {K : Type 0} → Classes K → List ℕ → ℕ
members_in t [] = 0
members_in t (c ∷ cs) = member_count (class_at t c) + members_in t cs

-- the classes that stand before one in a list
abbrev pub before : ℕ → List ℕ → List ℕ
before d [] = []
before d (c ∷ cs) = cond (eqb c d) [] (c ∷ before d cs)

-- how many places the objects of a class have
abbrev pub place_count : {K : Type 0} → Classes K → ℕ → Option ℕ
place_count t c = option_map (members_in t) (layout t c)

-- where the places begin that a class of the layout gives: after those of the classes before it
abbrev pub first_place : {K : Type 0} → Classes K → ℕ → ℕ → Option ℕ
first_place t c d = option_map (λ line. members_in t (before d line)) (layout t c)

-- the place that so many others come before, along some classes: a class, and an index among its members
abbrev pub place_along : {K : Type 0} → Classes K → List ℕ → ℕ → Option (ℕ × ℕ)
place_along t [] n = None
place_along t (c ∷ cs) n =
    let count = member_count (class_at t c) in
    cond (nat_lt n count) (Some (c, n)) (place_along t cs (n - count))

-- the place that an offset stands for in the objects of a class: the places of its layout's classes follow one another
abbrev pub place_at : {K : Type 0} → Classes K → ℕ → ℕ → Option (ℕ × ℕ)
place_at t c n = option_and_then (λ line. place_along t line n) (layout t c)
