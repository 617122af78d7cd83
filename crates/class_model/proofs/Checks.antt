-- The linearisations of small tables, computed.
use Rattle.class_model.proofs.Below.{ℕ, false, List, [], Some, None, refl, arrangements, all_arrangements, least_order, linear, Class, Classes, lin}
use Rattle.std.proofs.Common.{◌≡◌, ◌∷◌}

class : ℕ → List ℕ → Class ℕ
class number bases = record { name = []; number = number; bases = bases; attrs = []; members = []; flags = 0; brings = false }

-- object, A, B(A), C(A), D(B, C)
diamond : Classes ℕ
diamond =
    class 0 [] ∷ class 5 (0 ∷ []) ∷ class 6 (5 ∷ []) ∷ class 9 (5 ∷ []) ∷ class 100 (6 ∷ 9 ∷ []) ∷ []

diamond-order : lin diamond 100 ≡ Some (100 ∷ 6 ∷ 9 ∷ 5 ∷ 0 ∷ [])
unfolding diamond class linear least_order all_arrangements arrangements
diamond-order = refl

-- object, A, B, C(A), D(B), E(C, D)
branches : Classes ℕ
branches =
    class 0 [] ∷ class 1 (0 ∷ []) ∷ class 2 (0 ∷ []) ∷ class 13 (1 ∷ []) ∷ class 14 (2 ∷ []) ∷ class 25 (13 ∷ 14 ∷ []) ∷ []

-- one branch before the other, and object last
branches-order : lin branches 25 ≡ Some (25 ∷ 13 ∷ 1 ∷ 14 ∷ 2 ∷ 0 ∷ [])
unfolding branches class linear least_order all_arrangements arrangements
branches-order = refl

-- object, A, B, X(B, A), D(X, A, B)
crossed : Classes ℕ
crossed =
    class 0 [] ∷ class 1 (0 ∷ []) ∷ class 2 (0 ∷ []) ∷ class 3 (2 ∷ 1 ∷ []) ∷ class 4 (3 ∷ 1 ∷ 2 ∷ []) ∷ []

crossed-none : lin crossed 4 ≡ None
unfolding crossed class linear least_order all_arrangements arrangements
crossed-none = refl

-- object, A, B(A), C(A, B)
turned : Classes ℕ
turned =
    class 0 [] ∷ class 1 (0 ∷ []) ∷ class 2 (1 ∷ []) ∷ class 3 (1 ∷ 2 ∷ []) ∷ []

turned-none : lin turned 3 ≡ None
unfolding turned class linear least_order all_arrangements arrangements
turned-none = refl

-- no class has a number that is between
between-none : lin diamond 7 ≡ None
unfolding diamond class linear least_order all_arrangements arrangements
between-none = refl
