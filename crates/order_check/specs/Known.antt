-- What is known of the linearisations so far. No public contract names these.
use Rattle.order_check.specs.Below.{ℕ, suc, cond, eqb, List, [], map, length, get_or, Option, Some, None, option_and_then, IfSome, Vec, least_order, all_some, Includes, bases_of}
use Rattle.std.specs.Prelude.{◌≡◌, ◌<◌, ◌∷◌}
use Rattle.order_check.specs.declared.hierarchy.Entry.{Entry}
use Rattle.order_check.specs.declared.known.Lines.{Lines}
use Rattle.order_check.specs.declared.known.Lines.TheVariants.{All, Without}
use Rattle.order_check.specs.declared.levels.Found.{Found}
use Rattle.order_check.specs.Lists.{rows}
use Rattle.order_check.specs.Hierarchy.{classes, keys_of, order_in, orders, AreKeyed}
use Rattle.order_check.specs.Report.{first_without}

-- what the place of a key is
abbrev pub IsPlaceOf : List Entry → ℕ → Option ℕ → Type 0
IsPlaceOf h c None = Includes (keys_of h) c → ⊥
IsPlaceOf h c (Some place) = (place < length h) × (get_or (keys_of h) place 0 ≡ c)

-- what is known of the class with a key
abbrev pub known_in : {A : Type 0} → List Entry → List (Option A) → ℕ → Option A
known_in [] os c = None
known_in (e ∷ h) [] c = None
known_in (e ∷ h) (o ∷ os) c = cond (eqb e.key c) o (known_in h os c)

-- the least order over what is known of some bases
abbrev pub over : (ℕ → Option (List ℕ)) → ℕ → List ℕ → Option (List ℕ)
over f c bs = option_and_then (least_order c bs) (all_some (map f bs))

-- the same of the bases of a class
abbrev pub step : List Entry → (ℕ → Option (List ℕ)) → ℕ → Option (List ℕ)
step h f c = option_and_then (over f c) (bases_of (classes h) c)

-- what is known is so
unfoldable pub AreKnown : List Entry → List (Option (List ℕ)) → Type 0
AreKnown h os = (c : ℕ) (xs : List ℕ) → known_in h os c ≡ Some xs → order_in h c ≡ Some xs

-- where nothing is known of a class, nothing follows from what is known of its bases
abbrev pub IsClosedAt : List Entry → List (Option (List ℕ)) → ℕ → Type 0
IsClosedAt h os c = known_in h os c ≡ None → step h (known_in h os) c ≡ None

-- the same of each class before a place
unfoldable pub IsClosedTo : List Entry → List (Option (List ℕ)) → ℕ → Type 0
IsClosedTo h os n = (k : ℕ) → k < n → IsClosedAt h os (get_or (keys_of h) k 0)

-- of how many classes nothing is known
abbrev pub unknown : {A : Type 0} → List (Option A) → ℕ
unknown [] = 0
unknown (None ∷ os) = suc (unknown os)
unknown (Some xs ∷ os) = unknown os

-- nothing is known of any
abbrev pub AllNone : List (Option (List ℕ)) → Type 0
AllNone [] = Unit {0}
AllNone (None ∷ os) = AllNone os
AllNone (Some xs ∷ os) = ⊥

-- the orders of a class's bases, or the first base that has none
abbrev pub AreLinesFor : (ℕ → Option (List ℕ)) → List ℕ → Lines → Type 0
AreLinesFor f bs (All lines) = all_some (map f bs) ≡ Some (rows lines.items)
AreLinesFor f bs (Without b) = first_without f bs ≡ Some b

-- it stands at a place of some entries, and its order, if it has one, is that of the class there
abbrev pub IsFound : List Entry → Found → Type 0
IsFound h f = (f.place < length h) × IfSome f.order (λ v. order_in h (get_or (keys_of h) f.place 0) ≡ Some v.items)

-- so many entries have something known of each, and what is known is so
pub record CanFind (h : List Entry) (known : List (Option (Vec ℕ))) (place : ℕ) : Type 0 where
  pub keyed : AreKeyed h
  pub count : length known ≡ length h
  pub sound : AreKnown h (orders known)
  pub inside : place < length h
